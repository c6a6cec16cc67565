-- Properties that pushes along a path preserve.
use Rattle.std.proofs.Common.{◌≡◌, ◌≢◌, ℕ, zero, suc, ◌+◌, ◌<◌, Bool, true, false, List, [], ◌∷◌, ◌++◌, length, get_or}
use Rattle.std.proofs.Common.{take, Option, Some, None, refl, sym, ap, subst, ◌∙◌, ◌≤◌, arith, ◌⊎◌, inl, inr, ⊎_elim}
use Rattle.std.specs.Prelude.{map, Contains}
use Rattle.std.specs.List.{All}
use Rattle.std.proofs.lemmas.Bool.{cases_Bool}
use Rattle.std.proofs.lemmas.List.{append-nil, map-append, take_more}
use Rattle.std.proofs.lemmas.List.Elements.{All-head, All-tail, All-nil, All-cons, All-append, All-weaker}
use Rattle.firm_net.specs.Row.{Row}
use Rattle.firm_net.specs.Net.{Net, row_at, with_row, with_unit, CanPush, SameOtherRows}
use Rattle.firm_net.specs.declared.row.ArcId.{ArcId}
use Rattle.firm_net.specs.declared.row.Way.{Way}
use Rattle.firm_net.specs.declared.row.Way.TheVariants.{Forward, Backward}
use Rattle.firm_paths.specs.Laws.{ChangedRowIsFound}
use Rattle.firm_paths.specs.NetArcs.{arc_of, arcs_of, arc_or, is_forward, residual_of}
use Rattle.firm_paths.specs.Network.{Arc, Residual, Tight, IsPath, IsResidual, leaves, enters}
use Rattle.firm_paths.specs.declared.search.Step.{Step}
use Rattle.firm_flow.specs.Balance.{OnTheWay}
use Rattle.firm_flow.specs.Laws.{SetsOut, StepsOn, ComesRound}
use Rattle.firm_net.specs.Laws.{same_arc_or_not}
use Rattle.firm_graph.specs.View.{low_of_row, flow_of_row}
use Rattle.firm_paths.specs.Paths.{IsTightPath, Avoids}
use Rattle.firm_flow.specs.Flow.{cost_of, carried}
use Rattle.firm_canon.specs.inner.Turns.{SameLows, SameOff, CarriesOn, Turned}
use Rattle.firm_canon.proofs.Parts.{All-halves}

-- in the midst of the pushes: what was on its way is further on
abbrev pub IsGoing : Net → Net → List Step → List Step → Type 0
IsGoing old now steps rest =
    (found : Net) (price : ℕ → ℕ) (sources : List ℕ) (sink origin at to before : ℕ) (more : List Step)
    → OnTheWay (arcs_of old) price sources sink origin at to before (map (residual_of found) (steps ++ more))
    → (here : ℕ)
    × OnTheWay (arcs_of now) price sources sink origin here to before (map (residual_of found) (rest ++ more))

pub going_more : StepsOn → (old now new : Net) (s : Step) (pushed : Bool) (steps rest : List Step)
    → IsGoing old now steps (s ∷ rest)
    → ((pushed ≡ true → CanPush s.way (row_at now s.arc)) × (CanPush s.way (row_at now s.arc) → pushed ≡ true))
    → (pushed ≡ true → new ≡ with_row now s.arc (with_unit s.way)) → SameOtherRows now new s.arc
    → IsGoing old new steps rest
going_more law old now new s pushed steps rest was allowed pushes others found price sources sink origin at to before
    more start =
    let w = was found price sources sink origin at to before more start in
    let on = law found now s (rest ++ more) price sources sink origin w.0 to before w.1 in
    (enters (residual_of found s), on.1 new (pushes (allowed.1 on.0)) others)

pub going_done : (old now : Net) (steps rest : List Step) → rest ≡ [] → IsGoing old now steps rest
    → CarriesOn old steps now
going_done old now steps rest none was found price sources sink origin at to before more start =
    let w = was found price sources sink origin at to before more start in (
      w.0,
      subst (λ (z : List Step). OnTheWay (arcs_of now) price sources sink origin w.0 to before
          (map (residual_of found) (z ++ more))) none w.1,
    )

unit_low : (way : Way) (row : Row) → (with_unit way row).low ≡ row.low
unit_low Forward row = refl
unit_low Backward row = refl

can_row : (way : Way) (o : Option Row) → CanPush way o → (row : Row) × (o ≡ Some row)
can_row way None can = absurd can
can_row way (Some row) can = (row, refl)

-- a push leaves every lower bound
pub push_lows : ChangedRowIsFound → (now new : Net) (id : ArcId) (way : Way) (pushed : Bool)
    → ((pushed ≡ true → CanPush way (row_at now id)) × (CanPush way (row_at now id) → pushed ≡ true))
    → (pushed ≡ true → new ≡ with_row now id (with_unit way)) → (pushed ≡ false → new ≡ now) → SameOtherRows now new id
    → SameLows now new
push_lows law now new id way pushed allowed changed stays others b = ⊎_elim
    (λ (t : pushed ≡ true). ⊎_elim
    (λ (e : b ≡ id).
    let x = can_row way (row_at now id) (allowed.0 t) in
    let here : row_at new id ≡ Some (with_unit way x.0) =
    ap (λ (n : Net). row_at n id) (changed t) ∙ law now id x.0 (with_unit way) x.1 in
    subst (λ (z : ArcId). low_of_row (row_at new z) ≡ low_of_row (row_at now z)) (sym e)
    (ap low_of_row here ∙ (unit_low way x.0 ∙ sym (ap low_of_row x.1))))
    (λ (ne : b ≡ id → ⊥). ap low_of_row (others b ne)) (same_arc_or_not b id))
    (λ (f : pushed ≡ false). ap (λ (n : Net). low_of_row (row_at n b)) (stays f))
    (cases_Bool pushed)

pub pushed_flow : ChangedRowIsFound → (now new : Net) (id : ArcId) (row : Row) → row_at now id ≡ Some row
    → new ≡ with_row now id (with_unit Forward)
    → flow_of_row (row_at new id) ≡ flow_of_row (row_at now id) + 1
pushed_flow law now new id row e is =
    ap (λ (n : Net). flow_of_row (row_at n id)) is
    ∙ (ap flow_of_row (law now id row (with_unit Forward) e)
    ∙ ap (λ (z : ℕ). z + 1) (sym (ap flow_of_row e)))

pub off_more : (old now new : Net) (steps : List Step) (k : ℕ) (d : Step) → k < length steps
    → SameOff old now (take k steps)
    → SameOtherRows now new (get_or steps k d).arc → SameOff old new (take (k + 1) steps)
off_more old now new steps k d l was others b off =
    let split : All (λ (s : Step). s.arc ≢ b) (take k steps ++ get_or steps k d ∷ []) =
    subst (All (λ (s : Step). s.arc ≢ b)) (take_more steps k d l) off in
    let halves = All-halves (λ (s : Step). s.arc ≢ b) (take k steps) (get_or steps k d ∷ []) split in
    others b (λ e. All-head (λ (s : Step). s.arc ≢ b) (get_or steps k d) [] halves.1 (sym e)) ∙ was b halves.0

-- a path enters nowhere where it began and leaves nowhere where it ends, so it ends elsewhere
ends_off : (arcs : List (Arc ℕ ArcId)) (z from to : ℕ) (r : Residual ℕ ArcId) (rest : List (Residual ℕ ArcId))
    → IsPath arcs from to (r ∷ rest) → All (λ later. enters later ≡ z → ⊥) (r ∷ rest) → to ≡ z → ⊥
ends_off arcs z from to r [] path off e = All-head (λ later. enters later ≡ z → ⊥) r [] off (path.3 ∙ e)
ends_off arcs z from to r (s ∷ rest) path off e =
    ends_off arcs z (enters r) to s rest path.3 (All-tail (λ later. enters later ≡ z → ⊥) r (s ∷ rest) off) e

-- a step of a path: of the residual network, not back to where the path began, and not on from where it ends
record IsOnPath (arcs : List (Arc ℕ ArcId)) (from to : ℕ) (r : Residual ℕ ArcId) : Type 0 where
  pub residual : IsResidual arcs r
  pub forth : enters r ≡ from → ⊥
  pub short : leaves r ≡ to → ⊥

on_path : (arcs : List (Arc ℕ ArcId)) (origin from to : ℕ) (rs : List (Residual ℕ ArcId)) → IsPath arcs from to rs
    → All (λ later. enters later ≡ origin → ⊥) rs → All (IsOnPath arcs origin to) rs
on_path arcs origin from to [] path off = All-nil (IsOnPath arcs origin to)
on_path arcs origin from to (r ∷ rest) path off =
    All-cons (IsOnPath arcs origin to) r rest (record {
      residual = path.0;
      forth = All-head (λ later. enters later ≡ origin → ⊥) r rest off;
      short = λ e. ends_off arcs from from to r rest path path.2 (sym e ∙ path.1);
    })
    (on_path arcs origin (enters r) to rest path.3 (All-tail (λ later. enters later ≡ origin → ⊥) r rest off))

path_steps : (arcs : List (Arc ℕ ArcId)) (from to : ℕ) (rs : List (Residual ℕ ArcId)) → IsPath arcs from to rs
    → All (IsOnPath arcs from to) rs
path_steps arcs from to [] path = All-nil (IsOnPath arcs from to)
path_steps arcs from to (r ∷ rest) path = on_path arcs from from to (r ∷ rest) path path.2

-- no such step goes along an arc to where the path began that has no unit to spare, nor along a full one to its end
no_step : (net : Net) (way : Way) (arc : Arc ℕ ArcId) (from to : ℕ)
    → ((arc.head ≡ from) × (arc.flow ≤ arc.low)) ⊎ ((arc.head ≡ to) × (arc.cap ≤ arc.flow))
    → IsOnPath (arcs_of net) from to (record { arc = arc; forward = is_forward way }) → ⊥
no_step net Forward arc from to off on =
    ⊎_elim (λ (own : (arc.head ≡ from) × (arc.flow ≤ arc.low)). on.forth own.0)
    (λ (full : (arc.head ≡ to) × (arc.cap ≤ arc.flow)). omega (arith, on.residual.has_room refl, full.1)) off
no_step net Backward arc from to off on =
    ⊎_elim (λ (own : (arc.head ≡ from) × (arc.flow ≤ arc.low)). omega (arith, on.residual.may_fall refl, own.1))
    (λ (full : (arc.head ≡ to) × (arc.cap ≤ arc.flow)). on.short full.0) off

steps_off : (net : Net) (from to : ℕ) (b : ArcId) (row : Row) (steps : List Step) → row_at net b ≡ Some row
    → ((row.head.id.place ≡ from) × (row.flow ≤ row.low)) ⊎ ((row.head.id.place ≡ to) × (row.cap ≤ row.flow))
    → All (IsOnPath (arcs_of net) from to) (map (residual_of net) steps) → All (λ step. step.arc ≢ b) steps
steps_off net from to b row [] there off on = All-nil (λ (s : Step). s.arc ≢ b)
steps_off net from to b row (s ∷ steps) there off on =
    let P : Residual ℕ ArcId → Type 0 = IsOnPath (arcs_of net) from to in
    All-cons (λ (s : Step). s.arc ≢ b) s steps
    (λ e. no_step net s.way (arc_of b row) from to off
    (subst (λ (a : Arc ℕ ArcId). P (record { arc = a; forward = is_forward s.way }))
    (ap (λ (z : ArcId). arc_or z (row_at net z)) e ∙ ap (arc_or b) there)
    (All-head P (residual_of net s) (map (residual_of net) steps) on)))
    (steps_off net from to b row steps there off (All-tail P (residual_of net s) (map (residual_of net) steps) on))

avoids : (arc : ArcId) (steps : List Step) → All (λ step. step.arc ≢ arc) steps → Avoids (arc ∷ []) steps
avoids arc [] h = All-nil (λ (s : Step). Contains (arc ∷ []) s.arc → ⊥)
avoids arc (s ∷ steps) h =
    All-cons (λ (s : Step). Contains (arc ∷ []) s.arc → ⊥) s steps
    (λ c. All-head (λ (s : Step). s.arc ≢ arc) s steps h (sym (only_one c.0 c.1 c.2)))
    (avoids arc steps (All-tail (λ (s : Step). s.arc ≢ arc) s steps h))
  where
    only_one : {b : ArcId} (k : ℕ) → k < 1 → get_or (arc ∷ []) k b ≡ b → arc ≡ b
    only_one {b} zero l e = e
    only_one {b} (suc k) l e = absurd (omega (arith, l))

-- a push along the arc, and pushes along a path from its head and then back to its tail, are a turn
pub turned : ChangedRowIsFound → SetsOut → ComesRound
    → (old mid far new : Net) (price : ℕ → ℕ) (arc : ArcId) (row : Row) (steps back : List Step) (pushed : Bool)
    → row_at old arc ≡ Some row → row.flow < row.cap → row.cost + price row.tail.id.place ≡ price row.head.id.place
    → row.flow ≤ row.low
    → IsTightPath old price row.head.id.place row.tail.id.place (steps ++ back)
    → ((pushed ≡ true → CanPush Forward (row_at old arc)) × (CanPush Forward (row_at old arc) → pushed ≡ true))
    → (pushed ≡ true → mid ≡ with_row old arc (with_unit Forward)) → (pushed ≡ false → mid ≡ old)
    → SameOtherRows old mid arc
    → SameLows mid far → SameOff mid far steps → CarriesOn mid steps far
    → SameLows far new → SameOff far new back → CarriesOn far back new
    → Turned old new price arc
turned law sets_out comes_round old mid far new price arc row steps back pushed there room tight idle path allowed
    pushes stays others lows off carries lows_back off_back carries_back =
    let can : pushed ≡ true = allowed.1 (subst (CanPush Forward) (sym there) room) in
    let is : mid ≡ with_row old arc (with_unit Forward) = pushes can in
    let from : ℕ = row.head.id.place in
    let to : ℕ = row.tail.id.place in
    let before : ℕ = cost_of (arcs_of old) carried in
    let on = path_steps (arcs_of old) from to (map (residual_of old) (steps ++ back)) path.path in
    let apart : (b : ArcId) → All (λ (s : Step). s.arc ≢ b) (steps ++ back) → row_at new b ≡ row_at mid b =
    λ b none. let halves = All-halves (λ (s : Step). s.arc ≢ b) steps back none in
    off_back b halves.1 ∙ off b halves.0 in
    let own : All (λ (s : Step). s.arc ≢ arc) (steps ++ back) =
    steps_off old from to arc row (steps ++ back) there (inl (refl, idle)) on in
    record {
      lows = λ b. lows_back b ∙ (lows b ∙ push_lows law old mid arc Forward pushed allowed pushes stays others b);
      more = ap flow_of_row (apart arc own) ∙ pushed_flow law old mid arc row there is;
      others = λ b ne full.
          let into = full row there in
          apart b (steps_off old from to b into.0 (steps ++ back) into.1 (inr (into.3, into.2)) on) ∙ others b ne;
      whole = λ sources sink whole.
          let start = sets_out old mid arc row price sources sink (steps ++ back) whole.valid whole.within
          whole.balanced there room tight path (avoids arc (steps ++ back) own) is others in
          let half = carries old price sources sink to from to before back start in
          let end = carries_back old price sources sink to half.0 to before []
          (subst (λ (z : List Step). OnTheWay (arcs_of far) price sources sink to half.0 to before
          (map (residual_of old) z)) (sym (append-nil back)) half.1) in
          let round = comes_round (arcs_of new) price sources sink to end.0 before end.1 in
          (record { valid = end.1.valid; within = end.1.within; balanced = round.0 }, round.1);
    }

-- two paths are one path, if the second enters nothing of a set in which the first stays
path_join : (arcs : List (Arc ℕ ArcId)) (P : ℕ → Type 0) (a b c : ℕ) (xs ys : List (Residual ℕ ArcId)) → P a
    → All (λ r. P (enters r)) xs → All (λ r. P (enters r) → ⊥) ys → IsPath arcs a b xs → IsPath arcs b c ys
    → IsPath arcs a c (xs ++ ys)
path_join arcs P a b c [] ys at inside outside first second =
    subst (λ (z : ℕ). IsPath arcs z c ys) (sym first) second
path_join arcs P a b c (r ∷ xs) ys at inside outside first second = (
  first.0,
  first.1,
  All-append (λ (later : Residual ℕ ArcId). enters later ≡ a → ⊥) (r ∷ xs) ys first.2
      (All-weaker (λ (later : Residual ℕ ArcId). P (enters later) → ⊥)
      (λ (later : Residual ℕ ArcId). enters later ≡ a → ⊥) (λ later out e. out (subst P (sym e) at)) ys outside),
  path_join arcs P (enters r) b c xs ys (All-head (λ (z : Residual ℕ ArcId). P (enters z)) r xs inside)
      (All-tail (λ (z : Residual ℕ ArcId). P (enters z)) r xs inside) outside first.3 second,
)

-- a path to where alone a node is entered from, and a step from there to the node
pub path_back : (net : Net) (price : ℕ → ℕ) (from to end : ℕ) (steps : List Step) (back : Step)
    → IsTightPath net price from to steps
    → ((r : Residual ℕ ArcId) → IsResidual (arcs_of net) r → enters r ≡ end → leaves r ≡ to)
    → (from ≡ end → ⊥) → (to ≡ end → ⊥)
    → IsResidual (arcs_of net) (residual_of net back) → leaves (residual_of net back) ≡ to
    → enters (residual_of net back) ≡ end → Tight price (residual_of net back).arc
    → IsTightPath net price from end (steps ++ back ∷ [])
path_back net price from to end steps back path only from_off to_off residual leaves_is enters_is tight =
    let r : Residual ℕ ArcId = residual_of net back in
    let rs : List (Residual ℕ ArcId) = map (residual_of net) steps in
    let Off : ℕ → Type 0 = λ v. v ≡ end → ⊥ in
    let mapped : map (residual_of net) (steps ++ back ∷ []) ≡ rs ++ r ∷ [] =
    map-append (residual_of net) steps (back ∷ []) in
    let last : IsPath (arcs_of net) to end (r ∷ []) = (
      residual,
      leaves_is,
      All-cons (λ (later : Residual ℕ ArcId). enters later ≡ to → ⊥) r [] (λ e. to_off (sym e ∙ enters_is))
          (All-nil (λ (later : Residual ℕ ArcId). enters later ≡ to → ⊥)),
      enters_is,
    ) in
    record {
      path = subst (IsPath (arcs_of net) from end) (sym mapped)
          (path_join (arcs_of net) Off from to end rs (r ∷ []) from_off
          (All-weaker (IsOnPath (arcs_of net) from to) (λ (z : Residual ℕ ArcId). Off (enters z))
          (λ z on e. on.short (only z on.residual e)) rs (path_steps (arcs_of net) from to rs path.path))
          (All-cons (λ (z : Residual ℕ ArcId). Off (enters z) → ⊥) r [] (λ off. off enters_is)
          (All-nil (λ (z : Residual ℕ ArcId). Off (enters z) → ⊥)))
          path.path last);
      tight = subst (All (λ (z : Residual ℕ ArcId). Tight price z.arc)) (sym mapped)
          (All-append (λ (z : Residual ℕ ArcId). Tight price z.arc) rs (r ∷ []) path.tight
          (All-cons (λ (z : Residual ℕ ArcId). Tight price z.arc) r [] tight
          (All-nil (λ (z : Residual ℕ ArcId). Tight price z.arc))));
    }
