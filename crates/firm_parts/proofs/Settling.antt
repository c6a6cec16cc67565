-- The register of a state to whose places tenants come.
use Rattle.std.proofs.Common.{◌≡◌, ◌∙◌, ◌<◌, ◌≤◌, ◌+◌, ◌-◌, ◌++◌, ◌∷◌, [], ℕ, suc, List, arith, sym, ap, subst}
use Rattle.std.proofs.Common.{length, get_or, take, drop, drop-cons}
use Rattle.std.specs.Prelude.{replicate, set, Option, Some, Result, Ok, Err}
use Rattle.std.proofs.Math.ListN.{get_or-map}
use Rattle.std.proofs.lemmas.List.{append_assoc, append-nil, drop-drop, drop-set-lt, get_or_default, length-map}
use Rattle.std.proofs.lemmas.List.{length-take-le, map-set, set_at}
use Rattle.std.proofs.lemmas.List.{take_all, take_more}
use Rattle.firm_rules.specs.Book.{Book}
use Rattle.firm_text.specs.Registers.{IsCounted, IsRegister, most_admissions, vacant, with_tenant}
use Rattle.firm_text.specs.Rosters.{most_places}
use Rattle.firm_text.specs.declared.registers.Entry.{Entry}
use Rattle.firm_parts.specs.Parts.{joined, joined_by, settled_at}
use Rattle.firm_parts.specs.declared.joining.JoinFault.{JoinFault}
use Rattle.firm_text.specs.Commands.{◌>>=◌}
use Rattle.firm_saved.specs.Saved.{entry_of, register_of, untouched}
use Rattle.firm_saved.specs.declared.saved.SavedPlace.{SavedPlace}

-- the first of these entries, and then those of places that were never given
abbrev pub entries_to : ℕ → List Entry → List Entry
entries_to count entries = take count entries ++ replicate (most_places - count) (vacant 0)

pub next_entry : (entries : List Entry) (at : ℕ) → length entries ≡ most_places → at < most_places
    → set (entries_to at entries) at (get_or entries at (vacant 0)) ≡ entries_to (at + 1) entries
next_entry entries at all within =
    let rest : List Entry = replicate (most_places - (at + 1)) (vacant 0) in
    let one : most_places - at ≡ suc (most_places - (at + 1)) = omega arith in
    let split : replicate (most_places - at) (vacant 0) ≡ vacant 0 ∷ rest =
    ap (λ (n : ℕ). replicate n (vacant 0)) one in
    let wide : length (take at entries) ≡ at = length-take-le at entries (omega arith) in
    let here : Entry = get_or entries at (vacant 0) in
    ap (λ (places : List Entry). set (take at entries ++ places) at here) split
    ∙ set_at (take at entries) (vacant 0) rest here at wide
    ∙ sym (append_assoc (take at entries) (here ∷ []) rest)
    ∙ ap (λ (places : List Entry). places ++ rest) (sym (take_more entries at (vacant 0) (omega arith)))

pub all_entered : (entries : List Entry) → length entries ≡ most_places → entries_to 64 entries ≡ entries
all_entered entries all = append-nil (take 64 entries) ∙ take_all 64 entries (omega arith)

-- the entry of a place that an index finds
pub entry_found : (places : List SavedPlace) (at : ℕ) (found : SavedPlace) → at < length places
    → found ≡ get_or places at found → entry_of found ≡ get_or (register_of places) at (vacant 0)
entry_found places at found within is =
    ap entry_of (is ∙ get_or_default places at found untouched within) ∙ sym (get_or-map entry_of places at untouched)

pub wide : (places : List SavedPlace) → IsRegister (register_of places) → length places ≡ most_places
wide places sound = sym (length-map places entry_of) ∙ sound.all

-- how often a place was given
pub few_admissions : (places : List SavedPlace) (at : ℕ) (found : SavedPlace) → IsRegister (register_of places)
    → at < length places → found ≡ get_or places at found → found.admissions ≤ most_admissions
few_admissions places at found sound within is =
    let counted : IsCounted (entry_of found) =
    subst IsCounted (sym (entry_found places at found within is))
    (sound.counted at (vacant 0) (omega (arith, length-map places entry_of))) in
    counted.0

-- a tenant comes to a place
pub settled_register : (places : List SavedPlace) (at : ℕ) (tenant : List ℕ × Book)
    → with_tenant (register_of places) at tenant.0 ≡ register_of (settled_at places at tenant)
settled_register places at tenant =
    let p : SavedPlace = record {
      admissions = (get_or places at untouched).admissions + 1;
      tenant = Some tenant;
    } in
    ap (λ (n : ℕ). let here : Entry = record { tenant = Some tenant.0; admissions = n + 1 } in
    set (register_of places) at here)
    (ap (λ (entry : Entry). entry.admissions) (get_or-map entry_of places at untouched))
    ∙ sym (map-set entry_of places at p)

-- the same for a place that a search by index gave
pub settled_found : (places : List SavedPlace) (at : ℕ) (found : SavedPlace) (tenant : List ℕ × Book)
    → at < length places → found ≡ get_or places at found
    → with_tenant (register_of places) at tenant.0
    ≡ register_of (set places at (let p : SavedPlace =
    record { admissions = found.admissions + 1; tenant = Some tenant } in p))
settled_found places at found tenant within is =
    settled_register places at tenant
    ∙ ap (λ (n : ℕ). register_of (set places at (let p : SavedPlace =
    record { admissions = n + 1; tenant = Some tenant } in p)))
    (sym (ap (λ (p : SavedPlace). p.admissions) (is ∙ get_or_default places at found untouched within)))

-- the next of the places whose tenants come
pub next_other : (others : List SavedPlace) (at : ℕ) (found : SavedPlace) (items : List SavedPlace)
    → at < length items → drop at items ≡ drop at others → found ≡ get_or items at found
    → drop at others ≡ found ∷ drop (at + 1) others
next_other others at found items within same is =
    let next : suc at ≡ at + 1 = omega arith in
    let tail : List SavedPlace = drop (at + 1) others in
    let more : drop (at + 1) items ≡ tail =
    sym (drop-drop 1 at items) ∙ ap (drop 1) same ∙ drop-drop 1 at others in
    let rest : drop (suc at) items ≡ tail = ap (λ (n : ℕ). drop n items) next ∙ more in
    sym same ∙ drop-cons items at found within
    ∙ ap (λ (l : List SavedPlace). get_or items at found ∷ l) rest
    ∙ ap (λ (p : SavedPlace). p ∷ tail) (sym is)

-- a step of the joining, where the tenant of a place came, if it has one, or could not come
pub one_came : (places after others rest : List SavedPlace) (at : ℕ) (other : SavedPlace)
    (tenant : Option (List ℕ × Book))
    → drop at others ≡ other ∷ rest → tenant ≡ other.tenant → joined_by places tenant ≡ Ok after
    → joined places (drop at others) ≡ joined after rest
one_came places after others rest at other tenant is same came =
    ap (joined places) is
    ∙ ap (λ (t : Option (List ℕ × Book)). joined_by places t >>= λ more. joined more rest) (sym same)
    ∙ ap (λ (read : Result (List SavedPlace) JoinFault). read >>= λ more. joined more rest) came

pub none_could : (places others rest : List SavedPlace) (at : ℕ) (other : SavedPlace)
    (tenant : Option (List ℕ × Book)) (fault : JoinFault)
    → drop at others ≡ other ∷ rest → tenant ≡ other.tenant → joined_by places tenant ≡ Err fault
    → joined places (drop at others) ≡ Err fault
none_could places others rest at other tenant fault is same refused =
    ap (joined places) is
    ∙ ap (λ (t : Option (List ℕ × Book)). joined_by places t >>= λ more. joined more rest) (sym same)
    ∙ ap (λ (read : Result (List SavedPlace) JoinFault). read >>= λ more. joined more rest) refused

-- the places behind one that was written stay
pub left_behind : (items others : List SavedPlace) (at : ℕ) (other : SavedPlace)
    → drop at items ≡ drop at others → drop (at + 1) (set items at other) ≡ drop (at + 1) others
left_behind items others at other same =
    drop-set-lt (at + 1) items at other (omega arith)
    ∙ sym (drop-drop 1 at items) ∙ ap (drop 1) same ∙ drop-drop 1 at others
