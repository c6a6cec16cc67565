-- Words that are added to a text one group after the other.
use Rattle.std.proofs.Common.{◌≡◌, ◌∙◌, ◌+◌, ◌<◌, ◌≤◌, ℕ, List, [], ◌∷◌, ◌++◌, ap, sym, append_assoc, Result, Ok, Err}
use Rattle.std.proofs.Common.{length, get_or, drop, add-one, drop-cons}
use Rattle.std.specs.Prelude.{OnOk, codes, is_ok, if◌then◌else◌}
use Rattle.std.specs.Fmt.{decimal}
use Rattle.std.specs.Io.{StartsWith}
use Rattle.std.proofs.Transfers.{starts_with_of_append, starts_with_trans}
use Rattle.std.proofs.lemmas.List.{append-nil, drop_all}
use Rattle.firm_saved.specs.StateText.{row_words, words_text}
use Rattle.firm_saved.specs.declared.rows.Row.TheVariants as row

-- starting with a text is transitive
pub kept_trans : (xs ys zs : List ℕ) → StartsWith xs ys → StartsWith ys zs → StartsWith xs zs
kept_trans = starts_with_trans

-- the same after something was added, twice
pub kept_after : (new first text xs : List ℕ) → first ≡ text ++ xs → StartsWith new first → StartsWith new text
kept_after new first text xs added kept =
    starts_with_trans new first text kept (starts_with_of_append first text xs added)

six_labels : (text a i b j c k d l e m f n last : List ℕ)
    → text ++ a ++ i ++ b ++ j ++ c ++ k ++ d ++ l ++ e ++ m ++ f ++ n ++ last
    ≡ text ++ (a ++ (i ++ (b ++ (j ++ (c ++ (k ++ (d ++ (l ++ (e ++ (m ++ (f ++ (n ++ last))))))))))))
six_labels text a i b j c k d l e m f n last = simp append_assoc

-- six labels, each with its digits, and what was added last with success, are the text of these words
pub labels_added : {A E : Type 0} (result : Result A E)
    (text t1 t2 t3 t4 t5 t6 new a i b j c k d l e m f n last all : List ℕ)
    → t1 ≡ text ++ a ++ i → t2 ≡ t1 ++ b ++ j → t3 ≡ t2 ++ c ++ k → t4 ≡ t3 ++ d ++ l → t5 ≡ t4 ++ e ++ m
    → t6 ≡ t5 ++ f ++ n
    → OnOk result (new ≡ t6 ++ last)
    → a ++ (i ++ (b ++ (j ++ (c ++ (k ++ (d ++ (l ++ (e ++ (m ++ (f ++ (n ++ last))))))))))) ≡ all
    → OnOk result (new ≡ text ++ all)
labels_added (Ok done) text t1 t2 t3 t4 t5 t6 new a i b j c k d l e m f n last all p q r s t u v same =
    v ∙ rw (u, t, s, r, q, p, ← same) (six_labels text a i b j c k d l e m f n last)
labels_added (Err refused) text t1 t2 t3 t4 t5 t6 new a i b j c k d l e m f n last all p q r s t u v same = tt

-- two parts that were added one after the other
pub two_added : (new first text a b all : List ℕ) → first ≡ text ++ a → new ≡ first ++ b → a ++ b ≡ all
    → new ≡ text ++ all
two_added new first text a b all e f same =
    f ∙ ap (λ (l : List ℕ). l ++ b) e ∙ append_assoc text a b ∙ ap (λ (l : List ℕ). text ++ l) same

-- the words of a place's row, of which the last was added with success
pub place_added : {A E : Type 0} (result : Result A E) (text new : List ℕ) (n : ℕ)
    → OnOk result (new ≡ text ++ codes "place admissions " ++ decimal n)
    → OnOk result (new ≡ text ++ words_text (row_words (row.Place n)))
place_added (Ok done) text new n e =
    e ∙ append_assoc text (codes "place admissions ") (decimal n)
    ∙ ap (λ (l : List ℕ). text ++ (codes "place admissions " ++ l)) (sym (append-nil (decimal n)))
place_added (Err refused) text new n e = tt

-- the same, where the last was added with success
pub then_added : {A E : Type 0} (result : Result A E) (new first text a b all : List ℕ)
    → first ≡ text ++ a → OnOk result (new ≡ first ++ b) → a ++ b ≡ all → OnOk result (new ≡ text ++ all)
then_added (Ok done) new first text a b all e f same = two_added new first text a b all e f same
then_added (Err refused) new first text a b all e f same = tt

-- what was added last with success stands behind what was there
pub last_added : {A E : Type 0} (result : Result A E) (new first text b : List ℕ)
    → first ≡ text → OnOk result (new ≡ first ++ b) → OnOk result (new ≡ text ++ b)
last_added (Ok done) new first text b e f = f ∙ ap (λ (l : List ℕ). l ++ b) e
last_added (Err refused) new first text b e f = tt

-- the library's clause on added bytes: they were added with success, and the bytes before them stay
pub bytes_added : {A E : Type 0} (result : Result A E) (new text bytes : List ℕ)
    → new ≡ (if is_ok result then text ++ bytes else text) → OnOk result (new ≡ text ++ bytes)
bytes_added (Ok done) new text bytes e = e
bytes_added (Err refused) new text bytes e = tt

pub bytes_kept : {A E : Type 0} (result : Result A E) (new text bytes : List ℕ)
    → new ≡ (if is_ok result then text ++ bytes else text) → StartsWith new text
bytes_kept (Ok done) new text bytes e = starts_with_of_append new text bytes e
bytes_kept (Err refused) new text bytes e = starts_with_of_append new text [] (e ∙ sym (append-nil text))

-- three parts that were added one after the other
pub three_joined : (text first second new a b d all : List ℕ)
    → first ≡ text ++ a → second ≡ first ++ b → new ≡ second ++ d → a ++ (b ++ d) ≡ all → new ≡ text ++ all
three_joined text first second new a b d all e f g same =
    g ∙ rw (f, e, ← same) (append_assoc (text ++ a) b d ∙ append_assoc text a (b ++ d))

-- the same, where the last was added with success
pub three_added : {A E : Type 0} (result : Result A E) (text first second new a b d all : List ℕ)
    → first ≡ text ++ a → second ≡ first ++ b → OnOk result (new ≡ second ++ d) → a ++ (b ++ d) ≡ all
    → OnOk result (new ≡ text ++ all)
three_added (Ok done) text first second new a b d all e f g same =
    three_joined text first second new a b d all e f g same
three_added (Err refused) text first second new a b d all e f g same = tt

-- a step of a loop that adds the text of one item after the other: what was added and what is left are the same text
pub step_added : {A : Type 0} (text : List A → List ℕ) (one : A → List ℕ)
    → ((x : A) (xs : List A) → text (x ∷ xs) ≡ one x ++ text xs)
    → (xs : List A) (i : ℕ) (d : A) → i < length xs
    → (new old start : List ℕ) → new ≡ old ++ one (get_or xs i d) → old ++ text (drop i xs) ≡ start
    → new ++ text (drop (i + 1) xs) ≡ start
step_added text one more xs i d below new old start added before =
    rw (added, append_assoc, ← more, add-one, ← drop-cons xs i d below) before

-- at the end of such a loop the text of all items was added
pub all_added : {A : Type 0} (text : List A → List ℕ) → text [] ≡ []
    → (xs : List A) (i : ℕ) → length xs ≤ i
    → (new start : List ℕ) → new ++ text (drop i xs) ≡ start → new ≡ start
all_added text none xs i past new start before = sym (append-nil new) ∙ rw (drop_all i xs past, none) at before

-- a step of a loop over an iterator that adds the text of one item after the other
pub item_added : {A : Type 0} (text : List A → List ℕ) (one : A → List ℕ)
    → ((x : A) (xs : List A) → text (x ∷ xs) ≡ one x ++ text xs)
    → (all rest : List A) (x : A) → all ≡ x ∷ rest
    → (new old start : List ℕ) → new ≡ old ++ one x → old ++ text all ≡ start → new ++ text rest ≡ start
item_added text one more all rest x is new old start added before =
    rw (added, append_assoc, ← more, ← is) before

-- at the end of such a loop the text of all items was added
pub items_added : {A : Type 0} (text : List A → List ℕ) → text [] ≡ [] → (all : List A) → all ≡ []
    → (new start : List ℕ) → new ++ text all ≡ start → new ≡ start
items_added text none all end new start before = sym (append-nil new) ∙ rw (end, none) at before
