-- The replies of a tenant alone, with one command more.
use Rattle.std.proofs.Common.{◌≡◌, List, [], ◌∷◌, ◌++◌, refl, ap, ◌∙◌}
use Rattle.std.specs.Prelude.{Some}
use Rattle.firm_rules.specs.Book.{Book}
use Rattle.firm_rules.specs.declared.replies.Reply.{Reply}
use Rattle.firm_tenant.specs.Step.{step}
use Rattle.firm_tenant.specs.Alone.{replies_from, book_after}
use Rattle.firm_table.specs.Places.{Given, Stay, book_of, with_command}
use Rattle.firm_table.specs.Answers.{last_of, last_reply}

last_of-last : {X : Type 0} (xs : List X) (x : X) → last_of (xs ++ x ∷ []) ≡ Some x
last_of-last [] x = refl
last_of-last (y ∷ []) x = refl
last_of-last (y ∷ z ∷ zs) x = last_of-last (z ∷ zs) x

pub replies_from-last : (book : Book) (commands : List Given) (given : Given)
    → replies_from book (commands ++ given ∷ []) ≡ replies_from book commands
    ++ (step (book_after book commands) given.0 given.1).0 ∷ []
replies_from-last book [] given = refl
replies_from-last book (first ∷ rest) given =
    ap (λ replies. (step book first.0 first.1).0 ∷ replies) (replies_from-last (step book first.0 first.1).1 rest given)

pub book_after-last : (book : Book) (commands : List Given) (given : Given)
    → book_after book (commands ++ given ∷ []) ≡ (step (book_after book commands) given.0 given.1).1
book_after-last book [] given = refl
book_after-last book (first ∷ rest) given = book_after-last (step book first.0 first.1).1 rest given

-- its replies so far
abbrev pub replies_in : Stay → List Reply
replies_in stay = replies_from stay.opening stay.commands

pub replies_in-more : (stay : Stay) (given : Given) → replies_in (with_command given stay) ≡ replies_in stay
    ++ (step (book_of stay) given.0 given.1).0 ∷ []
replies_in-more stay given = replies_from-last stay.opening stay.commands given

pub book_of-more : (stay : Stay) (given : Given) → book_of (with_command given stay)
    ≡ (step (book_of stay) given.0 given.1).1
book_of-more stay given = book_after-last stay.opening stay.commands given

pub last_reply-more : (stay : Stay) (given : Given) → last_reply (with_command given stay)
    ≡ Some (step (book_of stay) given.0 given.1).0
last_reply-more stay given = ap last_of (replies_in-more stay given) ∙ last_of-last (replies_in stay) _
