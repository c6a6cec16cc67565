-- States that are joined and cut as asked.
use Rattle.std.proofs.Common.{◌≡◌, ◌∙◌, ◌+◌, ◌<◌, ◌++◌, ◌∷◌, [], ℕ, List, Result, Ok, Err, ap, arith, length, refl}
use Rattle.std.proofs.Common.{get_or, map, subst, sym, take}
use Rattle.std.specs.Borrow.{Bor}
use Rattle.std.proofs.lemmas.List.{length-map, map-append, take-map}
use Rattle.std.proofs.lemmas.List.Elements.{All-nil, All-push}
use Rattle.firm_parts.specs.Parts.{cut_state, joined_state}
use Rattle.firm_parts.specs.declared.joining.JoinFault.{JoinFault}
use Rattle.firm_saved.specs.Saved.{IsSoundSaved, SavedIs}
use Rattle.firm_saved.specs.StateText.{state_text}
use Rattle.firm_saved.specs.declared.faults.FaultKind.TheVariants as fault
use Rattle.firm_saved.specs.declared.faults.StateFault.{StateFault}
use Rattle.firm_program.specs.Faults.{fault_of_kind, fault_of_state}
use Rattle.firm_program.specs.declared.faults.Fault.{Fault}
use Rattle.firm_program.specs.declared.faults.Fault.TheVariants.{Service}
use Rattle.firm_table.specs.declared.faults.ServeFault.TheVariants.{Memory}
use Rattle.firm_table.specs.Service.{Device}
use Rattle.firm_text.specs.Commands.{◌>>=◌}
use Rattle.firm_program.specs.Files.{IsReadState, KnownFiles}
use Rattle.firm_state.specs.CommandLine.{Asked, texts}
use Rattle.firm_state.specs.Program.{ChangesText, CutsTo, FoldsText, FromFile, JoinsAll, NoChange, NotAllJoined}
use Rattle.firm_state.specs.Program.{NotThere, RefusesOther}
use Rattle.firm_state.specs.Program.{StopsCutting, StopsJoining, TellsState, all_joined, kept}
use Rattle.firm_state.proofs.Naming.{texts_more}

-- no state was joined
pub joins_none : (files : KnownFiles) (saved : SavedIs) → JoinsAll files [] saved saved
joins_none files saved = record { others = []; named = refl; read = All-nil _; whole = refl }

only_ok : (read : Result SavedIs JoinFault) → (read >>= λ more. Ok more) ≡ read
only_ok (Ok places) = refl
only_ok (Err fault) = refl

-- one more state is joined to those before it
all_more : (saved : SavedIs) (others : List SavedIs) (other : SavedIs)
    → all_joined saved (others ++ other ∷ []) ≡ (all_joined saved others >>= λ more. joined_state more other)
all_more saved [] other = only_ok (joined_state saved other)
all_more saved (first ∷ rest) other = by (joined_state saved first) (λ more. all_more more rest other)
  where
    by : (read : Result SavedIs JoinFault)
        → ((more : SavedIs) → all_joined more (rest ++ other ∷ [])
        ≡ (all_joined more rest >>= λ more. joined_state more other))
        → (read >>= λ more. all_joined more (rest ++ other ∷ []))
        ≡ ((read >>= λ more. all_joined more rest) >>= λ more. joined_state more other)
    by (Ok more) on = on more
    by (Err fault) on = refl

-- the states of files, and their paths
abbrev states_of : List FromFile → List SavedIs
states_of others = map (λ (other : FromFile). other.saved) others

abbrev paths_of : List FromFile → List (List ℕ)
paths_of others = map (λ (other : FromFile). other.path) others

abbrev from_file : List ℕ → SavedIs → FromFile
from_file path saved = record { path = path; saved = saved }

pub joins_more : (files : KnownFiles) (paths more : List (List ℕ)) (path : List ℕ)
    (saved before other both : SavedIs) → JoinsAll files paths saved before → more ≡ paths ++ path ∷ []
    → IsReadState (files path) other → joined_state before other ≡ Ok both → JoinsAll files more saved both
joins_more files paths more path saved before other both joins one read is =
    let last : FromFile = from_file path other in
    record {
      others = joins.others ++ last ∷ [];
      named = map-append (λ (other : FromFile). other.path) joins.others (last ∷ [])
          ∙ ap (λ (l : List (List ℕ)). l ++ path ∷ []) joins.named ∙ sym one;
      read = All-push (λ (other : FromFile). IsReadState (files other.path) other.saved) joins.others last joins.read
          read;
      whole = ap (all_joined saved) (map-append (λ (other : FromFile). other.saved) joins.others (last ∷ []))
          ∙ all_more saved (states_of joins.others) other
          ∙ ap (λ (read : Result SavedIs JoinFault). read >>= λ more. joined_state more other) joins.whole
          ∙ is;
    }

-- the states of the first files were joined, and then the next is refused, or joined too
module _ (files : KnownFiles) (paths : List (Bor (List ℕ))) (saved before : SavedIs) (at : ℕ)
    (within : at < length paths) (joins : JoinsAll files (texts (take at paths)) saved before) where
  pub stops_joining : (fault : Fault) → RefusesOther (files (get_or (texts paths) at [])) before fault
      → StopsJoining files (texts paths) saved fault
  stops_joining fault refused = record {
    so_far = at;
    fewer = omega (arith, within, length-map paths (λ (path : Bor (List ℕ)). path.now));
    before = before;
    joins = subst (λ (first : List (List ℕ)). JoinsAll files first saved before)
        (sym (take-map (λ (path : Bor (List ℕ)). path.now) at paths)) joins;
    next = refused;
  }

  pub joins_next : (other both : SavedIs) → IsReadState (files (get_or (texts paths) at [])) other
      → joined_state before other ≡ Ok both → JoinsAll files (texts (take (at + 1) paths)) saved both
  joins_next other both read is =
      joins_more files (texts (take at paths)) (texts (take (at + 1) paths)) (get_or (texts paths) at []) saved before
      other both joins (texts_more paths at within) read is

-- a state is cut where there are names
pub cuts_some : (names : List (List ℕ)) (saved : SavedIs) → 0 < length names
    → cut_state names saved ≡ kept names saved
cuts_some [] saved some = absurd (omega arith)
cuts_some (name ∷ rest) saved some = refl

pub is_empty : {A : Type 0} (list : List A) → length list ≡ 0 → list ≡ []
is_empty [] none = refl
is_empty (first ∷ rest) none = absurd (omega arith)

-- and else stays as it is
pub cuts_none : (names : List (List ℕ)) (saved : SavedIs) → length names ≡ 0 → CutsTo names saved saved
cuts_none [] saved none = record { there = All-nil _; cut = refl }
cuts_none (name ∷ rest) saved none = absurd (omega arith)

-- only the state after the lines was requested
pub tells_folded : (files : KnownFiles) (asked : Asked) (reader : Device) (text : List ℕ)
    → FoldsText files asked.opening reader text → length asked.others ≡ 0 → length asked.names ≡ 0
    → TellsState files asked reader text
tells_folded files asked reader text folded none nobody =
    let saved = folded.saved in
    record {
      saved = saved;
      file = folded.file;
      changed = record {
        after = saved;
        changed = record {
          both = saved;
          joins = subst (λ (paths : List (List ℕ)). JoinsAll files paths saved saved)
              (sym (is_empty asked.others none)) (joins_none files saved);
          cuts = cuts_none asked.names saved nobody;
        };
        sound = folded.file.sound;
        is = folded.is;
      };
    }

-- or the state after them, changed
pub tells_changed : (files : KnownFiles) (asked : Asked) (reader : Device) (text after : List ℕ)
    → FoldsText files asked.opening reader text
    → ((saved : SavedIs) → IsSoundSaved saved → text ≡ state_text saved → ChangesText files asked saved after)
    → TellsState files asked reader after
tells_changed files asked reader text after folded change = record {
  saved = folded.saved;
  file = folded.file;
  changed = change folded.saved folded.file.sound folded.is;
}

-- the reason why a state that was read again is not changed: memory was refused, or the request is refused
pub of_memory : (found : StateFault) → found.kind ≡ fault.Memory → fault_of_state found ≡ Service Memory
of_memory found is = ap (fault_of_kind found) is

module _ (files : KnownFiles) (asked : Asked) (saved alone : SavedIs) (is : alone ≡ saved) (paths : List (List ℕ))
    (same : paths ≡ asked.others) where
  pub not_joined : (fault : Fault) → StopsJoining files paths alone fault → NoChange files asked saved fault
  not_joined fault stops =
      NotAllJoined (subst (λ (paths : List (List ℕ)). StopsJoining files paths saved fault) same
      (subst (λ (s : SavedIs). StopsJoining files paths s fault) is stops))

  all_in : (both : SavedIs) → JoinsAll files paths alone both → JoinsAll files asked.others saved both
  all_in both joins =
      subst (λ (paths : List (List ℕ)). JoinsAll files paths saved both) same
      (subst (λ (s : SavedIs). JoinsAll files paths s both) is joins)

  pub not_there : (names : List (List ℕ)) (both : SavedIs) (fault : Fault) → names ≡ asked.names
      → JoinsAll files paths alone both → StopsCutting names both fault → NoChange files asked saved fault
  not_there names both fault named joins stops =
      NotThere (record {
        both = both;
        joins = all_in both joins;
        cutting = subst (λ (l : List (List ℕ)). StopsCutting l both fault) named stops;
      })

  pub changes : (names : List (List ℕ)) (both after : SavedIs) (text : List ℕ) → names ≡ asked.names
      → JoinsAll files paths alone both → CutsTo names both after → IsSoundSaved after → text ≡ state_text after
      → ChangesText files asked saved text
  changes names both after text named joins cuts sound is_text = record {
    after = after;
    changed = record {
      both = both;
      joins = all_in both joins;
      cuts = subst (λ (l : List (List ℕ)). CutsTo l both after) named cuts;
    };
    sound = sound;
    is = is_text;
  }
