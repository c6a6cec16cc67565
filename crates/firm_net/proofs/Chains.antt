-- The lists that links show, and that they stay where links of other lists change.
use Rattle.std.proofs.Common.{◌≡◌, ◌≢◌, ℕ, ◌==◌, ◌⊎◌, inl, inr, List, [], ◌∷◌, Contains, refl, sym, ap, ◌∙◌, subst}
use Rattle.std.proofs.Common.{eq-eqb, ne_eqb, Option, Some, None, option_map}
use Rattle.std.proofs.lemmas.Bool.{cases_eq}
use Rattle.std.proofs.lemmas.Option.{none-some, same_Some}
use Rattle.firm_arena.specs.Arena.{Arena, find}
use Rattle.firm_arena.specs.declared.Id.{Id}
use Rattle.firm_net.specs.Row.{Row}
use Rattle.firm_net.specs.Net.{Lists, side_list, end_of, with_list}
use Rattle.firm_net.specs.inner.Links.{neighbours_of, with_neighbours, with_next, with_previous, list_of, with_arc_list}
use Rattle.firm_net.specs.inner.Links.{at_option, IsChain, ShowsList}
use Rattle.firm_net.specs.declared.row.NodeId.{NodeId}
use Rattle.firm_net.specs.declared.row.ArcId.{ArcId}
use Rattle.firm_net.specs.declared.links.Side.{Side}
use Rattle.firm_net.specs.declared.links.Side.TheVariants.{Out, In}
use Rattle.firm_net.specs.declared.links.Neighbours.{Neighbours}
use Rattle.firm_net.specs.declared.links.Link.{Link}
use Rattle.firm_net.specs.declared.links.ArcList.{ArcList}
use Rattle.firm_net.specs.declared.links.Node.{Node}
use Rattle.std.proofs.lemmas.Bool.{cond-true, cond-false}
use Rattle.firm_arena.specs.Changes.{find-changed_at, same_place}
use Rattle.firm_net.proofs.Lists.{contains-here, contains-there, contains-nothing, contains-cases}

abbrev pub opposite : Side → Side
opposite Out = In
opposite In = Out

pub cases_side : (s side : Side) → (s ≡ side) ⊎ (s ≡ opposite side)
cases_side Out Out = inl refl
cases_side Out In = inr refl
cases_side In Out = inr refl
cases_side In In = inl refl

pub neighbours-with_same : (side : Side) (around : Neighbours) (link : Link)
    → neighbours_of side (with_neighbours side around link) ≡ around
neighbours-with_same Out around link = refl
neighbours-with_same In around link = refl

pub neighbours-with_opposite : (side : Side) (around : Neighbours) (link : Link)
    → neighbours_of (opposite side) (with_neighbours side around link) ≡ neighbours_of (opposite side) link
neighbours-with_opposite Out around link = refl
neighbours-with_opposite In around link = refl

pub row-with_neighbours : (side : Side) (around : Neighbours) (link : Link)
    → (with_neighbours side around link).row ≡ link.row
row-with_neighbours Out around link = refl
row-with_neighbours In around link = refl

pub list-with_same : (side : Side) (list : ArcList) (node : Node) → list_of side (with_arc_list side list node) ≡ list
list-with_same Out list node = refl
list-with_same In list node = refl

pub list-with_opposite : (side : Side) (list : ArcList) (node : Node)
    → list_of (opposite side) (with_arc_list side list node) ≡ list_of (opposite side) node
list-with_opposite Out list node = refl
list-with_opposite In list node = refl

pub side_list-with_same : (side : Side) (f : List ArcId → List ArcId) (lists : Lists)
    → side_list side (with_list side f lists) ≡ f (side_list side lists)
side_list-with_same Out f lists = refl
side_list-with_same In f lists = refl

pub side_list-with_opposite : (side : Side) (f : List ArcId → List ArcId) (lists : Lists)
    → side_list (opposite side) (with_list side f lists) ≡ side_list (opposite side) lists
side_list-with_opposite Out f lists = refl
side_list-with_opposite In f lists = refl

-- the arcs of a list keep their neighbours there and their ends
abbrev pub KeptSide : Side → Arena Link → Arena Link → NodeId → List ArcId → Type 0
KeptSide side links new n ids =
    (a : ArcId) (link : Link) → Contains ids a → find links a.id ≡ Some link → end_of side link.row ≡ n
    → (kept : Link) × (find new a.id ≡ Some kept) × (neighbours_of side kept ≡ neighbours_of side link)
    × (end_of side kept.row ≡ n)

-- a list with the same arcs is the same list
pub chain-kept : (side : Side) (links new : Arena Link) (n : NodeId) (before from : Option ℕ) (ids : List ArcId)
    → KeptSide side links new n ids → IsChain side links n before from ids → IsChain side new n before from ids
chain-kept side links new n before from [] kept chain = chain
chain-kept side links new n before from (a ∷ rest) kept (link, stands, chain) =
    let k = kept a link (contains-here a rest) stands.found stands.end in (
      k.0,
      record {
        starts = stands.starts;
        found = k.1;
        end = k.3;
        behind = ap (λ (around : Neighbours). around.previous) k.2 ∙ stands.behind;
      },
      subst (λ (around : Neighbours). IsChain side new n (Some a.id.place) around.next rest) (sym k.2)
          (chain-kept side links new n (Some a.id.place) (neighbours_of side link).next rest
          (λ b l h f e. kept b l (contains-there a rest b h) f e) chain),
    )

pub list-kept : (side : Side) (links new : Arena Link) (n : NodeId) (list : ArcList) (ids : List ArcId)
    → KeptSide side links new n ids → ShowsList side links n list ids → ShowsList side new n list ids
list-kept side links new n list ids kept shows =
    record { chain = chain-kept side links new n None list.first ids kept shows.chain; count = shows.count }

-- every arc of a list is there, and has the list's node as its end
pub chain-found : (side : Side) (links : Arena Link) (n : NodeId) (before from : Option ℕ) (ids : List ArcId)
    → IsChain side links n before from ids → (a : ArcId) → Contains ids a
    → (link : Link) × (find links a.id ≡ Some link) × (end_of side link.row ≡ n)
chain-found side links n before from [] chain a h = absurd (contains-nothing a h)
chain-found side links n before from (b ∷ rest) (link, stands, chain) a h =
    elim (contains-cases b rest a h) [
      | inl is ↦
          subst (λ (c : ArcId). (l : Link) × (find links c.id ≡ Some l) × (end_of side l.row ≡ n)) is
          (link, stands.found, stands.end)
      | inr later ↦ chain-found side links n (Some b.id.place) (neighbours_of side link).next rest chain a later
    ]

-- a place that names an arc of this node's list
abbrev pub IsOf : Side → Arena Link → NodeId → Option ℕ → Type 0
IsOf side links n o =
    (p : ℕ) → o ≡ Some p → (a : ArcId) × (link : Link) × (a.id.place ≡ p) × (find links a.id ≡ Some link)
    × (end_of side link.row ≡ n)

-- the first place of a list
pub first-of : (side : Side) (links : Arena Link) (n : NodeId) (before from : Option ℕ) (ids : List ArcId)
    → IsChain side links n before from ids → IsOf side links n from
first-of side links n before from [] chain p e = absurd (none-some p (sym chain ∙ e))
first-of side links n before from (a ∷ rest) (link, stands, chain) p e =
    (a, link, same_Some a.id.place p (sym stands.starts ∙ e), stands.found, stands.end)

-- what an id finds after a change at a place that may not be named
pub find-at_option_other : (links : Arena Link) (o : Option ℕ) (f : Link → Link) (id : Id) → o ≢ Some id.place
    → find (at_option links o f) id ≡ find links id
find-at_option_other links None f id other = refl
find-at_option_other links (Some p) f id other =
    find-changed_at links p f id
    ∙ cond-false (id.place == p) (option_map f (find links id)) (find links id)
    (ne_eqb id.place p (λ e. other (ap (λ (q : ℕ). let made : Option ℕ = Some q in made) (sym e))))

pub find-at_option_same : (links : Arena Link) (o : Option ℕ) (f : Link → Link) (id : Id) (link : Link)
    → o ≡ Some id.place
    → find links id ≡ Some link → find (at_option links o f) id ≡ Some (f link)
find-at_option_same links None f id link same found = absurd (none-some id.place same)
find-at_option_same links (Some p) f id link same found =
    find-changed_at links p f id
    ∙ cond-true (id.place == p) (option_map f (find links id)) (find links id)
    (eq-eqb id.place p (sym (same_Some p id.place same)))
    ∙ ap (λ (x : Option Link). option_map f x) found

pub cases_named : (o : Option ℕ) (p : ℕ) → (o ≡ Some p) ⊎ (o ≢ Some p)
cases_named None p = inr (λ e. none-some p e)
cases_named (Some q) p =
    elim (cases_eq q p) [
      | inl same ↦ inl (ap (λ (k : ℕ). let made : Option ℕ = Some k in made) same)
      | inr other ↦ inr (λ e. other (same_Some q p e))
    ]

-- a change of links that touches only their neighbours in the lists of one side
abbrev pub Touches : Side → (Link → Link) → Type 0
Touches side f =
    (link : Link)
    → ((f link).row ≡ link.row) × (neighbours_of (opposite side) (f link) ≡ neighbours_of (opposite side) link)

pub touches-next : (side : Side) (o : Option ℕ) → Touches side (with_next side o)
touches-next side o link =
    let around : Neighbours = record { next = o; previous = (neighbours_of side link).previous } in
    (row-with_neighbours side around link, neighbours-with_opposite side around link)

pub touches-previous : (side : Side) (o : Option ℕ) → Touches side (with_previous side o)
touches-previous side o link =
    let around : Neighbours = record { next = (neighbours_of side link).next; previous = o } in
    (row-with_neighbours side around link, neighbours-with_opposite side around link)

pub touches-neighbours : (side : Side) (around : Neighbours) → Touches side (with_neighbours side around)
touches-neighbours side around link = (row-with_neighbours side around link, neighbours-with_opposite side around link)

-- such a change keeps every link's row and its neighbours on the other side
pub touched : (side : Side) (links : Arena Link) (o : Option ℕ) (f : Link → Link) (id : Id) (link : Link)
    → Touches side f
    → find links id ≡ Some link
    → (new : Link) × (find (at_option links o f) id ≡ Some new) × (new.row ≡ link.row)
    × (neighbours_of (opposite side) new ≡ neighbours_of (opposite side) link)
touched side links o f id link touches found =
    elim (cases_named o id.place) [
      | inl same ↦
          (f link, find-at_option_same links o f id link same found, (touches link).0, (touches link).1)
      | inr other ↦ (link, find-at_option_other links o f id other ∙ found, refl, refl)
    ]

-- so the lists of the other side stay the same
pub kept-opposite : (side : Side) (links : Arena Link) (o p : Option ℕ) (f g : Link → Link) → Touches side f
    → Touches side g
    → (n : NodeId) (ids : List ArcId) → KeptSide (opposite side) links (at_option (at_option links o f) p g) n ids
kept-opposite side links o p f g touches_f touches_g n ids a link h found end =
    let one = touched side links o f a.id link touches_f found in
    let two = touched side (at_option links o f) p g a.id one.0 touches_g one.1 in (
      two.0,
      two.1,
      two.3 ∙ one.3,
      ap (λ (row : Row). end_of (opposite side) row) (two.2 ∙ one.2) ∙ end,
    )

-- an arc of another node's list does not stand at a place of this node's list
elsewhere : (side : Side) (links : Arena Link) (n m : NodeId) (a : ArcId) (link : Link) (o : Option ℕ)
    → IsOf side links n o
    → m ≢ n → find links a.id ≡ Some link → end_of side link.row ≡ m → o ≡ Some a.id.place → ⊥
elsewhere side links n m a link o of other found end e =
    let there = of a.id.place e in
    let same = same_place links a.id there.0.id link there.1 found there.3 (sym there.2) in
    other (sym end ∙ ap (λ (l : Link). end_of side l.row) same.1 ∙ there.4)

-- and the lists of other nodes on the same side
pub kept-elsewhere : (side : Side) (links : Arena Link) (o p : Option ℕ) (f g : Link → Link) (n m : NodeId)
    (ids : List ArcId)
    → IsOf side links n o → IsOf side links n p → m ≢ n
    → KeptSide side links (at_option (at_option links o f) p g) m ids
kept-elsewhere side links o p f g n m ids of_o of_p other a link h found end =
    let not_o : o ≢ Some a.id.place = λ e. elsewhere side links n m a link o of_o other found end e in
    let not_p : p ≢ Some a.id.place = λ e. elsewhere side links n m a link p of_p other found end e in (
      link,
      find-at_option_other (at_option links o f) p g a.id not_p ∙ find-at_option_other links o f a.id not_o ∙ found,
      refl,
      end,
    )
