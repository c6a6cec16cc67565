-- Words whose bytes are above a space are what stands between the spaces of their line, and the line has no line feed.
use Rattle.std.proofs.Common.{◌≡◌, ◌<◌, ◌≤◌, ◌^◌, ℕ, Bool, true, false, List, [], ◌∷◌, ◌++◌}
use Rattle.std.proofs.Common.{refl, ap, ◌∙◌, arith, append_assoc}
use Rattle.std.specs.Prelude.{All, nat_lt}
use Rattle.std.specs.Char.{is_ascii_digit}
use Rattle.std.specs.Fmt.{decimal}
use Rattle.std.specs.List.{flat_map, list_all, slice_split, AllByRecursion}
use Rattle.std.proofs.lemmas.Bool.{and_from, and_parts, ltb-true, lt-ltb, ne_eqb}
use Rattle.std.proofs.lemmas.Fmt.{digits_decimal}
use Rattle.std.proofs.lemmas.List.{append-nil}
use Rattle.std.proofs.lemmas.List.Elements.{All-from_recursion}
use Rattle.std.proofs.lemmas.List.Folds.{list_all-append}
use Rattle.std.proofs.lemmas.List.Splits.{slice_split_at, slice_split_none}
use Rattle.std.proofs.lemmas.Bool.Decides.{nat_tests}
use Rattle.firm_rules.specs.Names.{is_name, is_name_byte}
use Rattle.firm_text.specs.Lines.{is_line_feed}
use Rattle.firm_text.specs.Replies.{spaced}
use Rattle.firm_saved.specs.StateText.{words_text}
use Rattle.firm_saved.specs.Lines.{is_space}
use Rattle.firm_saved.proofs.Digits.{own}

-- each byte is above this one
abbrev pub above : ℕ → List ℕ → Bool
above low bytes = list_all (nat_lt low) bytes

-- bytes above a mark have none
lacks : (p : ℕ → Bool) (low : ℕ) → ((b : ℕ) → low < b → p b ≡ false) → (bytes : List ℕ) → above low bytes ≡ true
    → AllByRecursion (λ b. p b ≡ false) bytes
lacks p low apart [] h = tt
lacks p low apart (b ∷ bytes) h =
    let parts = and_parts (nat_lt low b) (above low bytes) h in
    (apart b (ltb-true low b parts.0), lacks p low apart bytes parts.1)

pub lacks_mark : (p : ℕ → Bool) (low : ℕ) → ((b : ℕ) → low < b → p b ≡ false) → (bytes : List ℕ)
    → above low bytes ≡ true → All (λ b. p b ≡ false) bytes
lacks_mark p low apart bytes h = All-from_recursion (λ b. p b ≡ false) bytes (lacks p low apart bytes h)

no_space : (b : ℕ) → 32 < b → is_space b ≡ false
no_space b h = ne_eqb b 32 (λ e. omega arith)

no_feed : (b : ℕ) → 10 < b → is_line_feed b ≡ false
no_feed b h = ne_eqb b 10 (λ e. omega arith)

-- the words of a line are between its spaces
pub words_split : (first : List ℕ) (rest : List (List ℕ)) → above 32 first ≡ true → list_all (above 32) rest ≡ true
    → slice_split is_space (words_text (first ∷ rest)) ≡ first ∷ rest
words_split first [] h k =
    ap (slice_split is_space) (append-nil first)
    ∙ slice_split_none is_space first (lacks_mark is_space 32 no_space first h)
words_split first (word ∷ rest) h k =
    let parts = and_parts (above 32 word) (list_all (above 32) rest) k in
    slice_split_at is_space first 32 (words_text (word ∷ rest)) (lacks_mark is_space 32 no_space first h) refl
    ∙ ap (λ (words : List (List ℕ)). first ∷ words) (words_split word rest parts.0 parts.1)

-- bytes above a byte are above a lower one
lower : (low high : ℕ) → low ≤ high → (bytes : List ℕ) → above high bytes ≡ true → above low bytes ≡ true
lower low high le [] h = refl
lower low high le (b ∷ bytes) h =
    let parts = and_parts (nat_lt high b) (above high bytes) h in
    and_from (nat_lt low b) (above low bytes)
    (lt-ltb low b (let more = ltb-true high b parts.0 in omega arith))
    (lower low high le bytes parts.1)

both : (low : ℕ) (xs ys : List ℕ) → above low xs ≡ true → above low ys ≡ true → above low (xs ++ ys) ≡ true
both low xs ys h k = list_all-append (nat_lt low) xs ys ∙ and_from (above low xs) (above low ys) h k

rest_above : (rest : List (List ℕ)) → list_all (above 32) rest ≡ true → above 10 (flat_map spaced rest) ≡ true
rest_above [] k = refl
rest_above (word ∷ rest) k =
    let parts = and_parts (above 32 word) (list_all (above 32) rest) k in
    both 10 word (flat_map spaced rest) (lower 10 32 (omega arith) word parts.0) (rest_above rest parts.1)

-- a line of such words has no line feed
pub line_above : (words : List (List ℕ)) → list_all (above 32) words ≡ true → above 10 (words_text words) ≡ true
line_above [] k = refl
line_above (first ∷ rest) k =
    let parts = and_parts (above 32 first) (list_all (above 32) rest) k in
    both 10 first (flat_map spaced rest) (lower 10 32 (omega arith) first parts.0) (rest_above rest parts.1)

-- a line with its line feed
abbrev pub ended_line : List ℕ → List ℕ
ended_line line = line ++ 10 ∷ []

-- the pieces of lines that each end in a line feed are the lines, and nothing after the last line feed
pub lines_split : (lines : List (List ℕ)) → list_all (above 10) lines ≡ true
    → slice_split is_line_feed (flat_map ended_line lines) ≡ lines ++ [] ∷ []
lines_split [] h = refl
lines_split (line ∷ lines) h =
    let parts = and_parts (above 10 line) (list_all (above 10) lines) h in
    ap (slice_split is_line_feed) (append_assoc line (10 ∷ []) (flat_map ended_line lines))
    ∙ slice_split_at is_line_feed line 10 (flat_map ended_line lines)
    (lacks_mark is_line_feed 10 no_feed line parts.0) refl
    ∙ ap (λ (more : List (List ℕ)). line ∷ more) (lines_split lines parts.1)

-- the bytes of a name are above a space
name_above : (bytes : List ℕ) → list_all is_name_byte bytes ≡ true → above 32 bytes ≡ true
name_above [] h = refl
name_above (b ∷ bytes) h =
    let parts = and_parts (is_name_byte b) (list_all is_name_byte bytes) h in
    and_from (nat_lt 32 b) (above 32 bytes) (byte_above b parts.0) (name_above bytes parts.1)
  where
    byte_above : (b : ℕ) → is_name_byte b ≡ true → nat_lt 32 b ≡ true
    byte_above b h = grind (arith, nat_tests)

pub name_clean : (name : List ℕ) → is_name name ≡ true → above 32 name ≡ true
name_clean name h = name_above name (grind (arith, nat_tests))

digits_above : (bytes : List ℕ) → list_all is_ascii_digit bytes ≡ true → above 32 bytes ≡ true
digits_above [] h = refl
digits_above (b ∷ bytes) h =
    let parts = and_parts (is_ascii_digit b) (list_all is_ascii_digit bytes) h in
    and_from (nat_lt 32 b) (above 32 bytes) (byte_above b parts.0) (digits_above bytes parts.1)
  where
    byte_above : (b : ℕ) → is_ascii_digit b ≡ true → nat_lt 32 b ≡ true
    byte_above b h = grind (arith, nat_tests)

pub decimal_clean : (n : ℕ) → n < 2 ^ 64 → above 32 (decimal n) ≡ true
decimal_clean n fits = digits_above (decimal n) (digits_decimal own n fits)
