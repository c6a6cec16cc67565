-- How a net's lists run through its arcs. No public clause cites this module.
use Rattle.std.specs.Prelude.{◌≡◌, ℕ, zero, suc, ◌+◌, ◌-◌, ◌<◌, ◌≤◌, List, [], ◌∷◌, length, Option, Some, None}
use Rattle.firm_arena.specs.Arena.{Arena, find, held_at, changed_at, changed_all, slot_changed}
use Rattle.firm_net.specs.Row.{Row}
use Rattle.firm_net.specs.Net.{Lists, side_list, end_of}
use Rattle.firm_net.specs.declared.row.NodeId.{NodeId}
use Rattle.firm_net.specs.declared.row.ArcId.{ArcId}
use Rattle.firm_net.specs.declared.links.Side.{Side}
use Rattle.firm_net.specs.declared.links.Side.TheVariants.{Out, In}
use Rattle.firm_net.specs.declared.links.Neighbours.{Neighbours}
use Rattle.firm_net.specs.declared.links.Link.{Link}
use Rattle.firm_net.specs.declared.links.ArcList.{ArcList}
use Rattle.firm_net.specs.declared.links.Node.{Node}

-- the neighbours of an arc in one of its lists
abbrev pub neighbours_of : Side → Link → Neighbours
neighbours_of Out link = link.outgoing
neighbours_of In link = link.incoming

abbrev pub with_neighbours : Side → Neighbours → Link → Link
with_neighbours Out n link = record link { outgoing = n }
with_neighbours In n link = record link { incoming = n }

abbrev pub with_next : Side → Option ℕ → Link → Link
with_next side next link =
    with_neighbours side (record { next = next; previous = (neighbours_of side link).previous }) link

abbrev pub with_previous : Side → Option ℕ → Link → Link
with_previous side previous link =
    with_neighbours side (record { next = (neighbours_of side link).next; previous = previous }) link

-- an arc in no list
abbrev pub loose_link : Row → Link
loose_link row =
    let none : Neighbours = record { next = None; previous = None } in
    record { row = row; outgoing = none; incoming = none }

-- an arc with another row
abbrev pub with_link_row : Row → Link → Link
with_link_row row link = record link { row = row }

-- an arc without flow, on which none need flow
abbrev pub cleared_link : Link → Link
cleared_link link = record link { row = record link.row { low = 0; flow = 0 } }

-- of the arcs of `old`, those below a place are cleared
pub record IsClearedTo (old new : Arena Link) (place : ℕ) : Type 0 where
  pub places : length new.held ≡ length old.held
  pub same_counter : new.counter ≡ old.counter
  pub cleared : (p : ℕ) → p < place → held_at new p ≡ slot_changed cleared_link (held_at old p)
  pub same : (p : ℕ) → place ≤ p → held_at new p ≡ held_at old p

-- one of the lists of a node
abbrev pub list_of : Side → Node → ArcList
list_of Out node = node.outgoing
list_of In node = node.incoming

abbrev pub with_arc_list : Side → ArcList → Node → Node
with_arc_list Out list node = record node { outgoing = list }
with_arc_list In list node = record node { incoming = list }

-- a node without arcs
abbrev pub empty_node : Node
empty_node = record { outgoing = record { first = None; count = 0 }; incoming = record { first = None; count = 0 } }

-- the value at a place changed, where a place is named
abbrev pub at_option : {X : Type 0} → Arena X → Option ℕ → (X → X) → Arena X
at_option arena None f = arena
at_option arena (Some place) f = changed_at arena place f

-- a list with one arc more, the one at this place, before the others
abbrev pub list_from : ℕ → ArcList → ArcList
list_from place list = record { first = Some place; count = list.count + 1 }

-- the first arc of a list, once the arc with these neighbours left it
abbrev pub first_past : Option ℕ → Option ℕ → Option ℕ → Option ℕ
first_past None next first = next
first_past (Some _) next first = first

abbrev pub list_past : Neighbours → ArcList → ArcList
list_past around list = record { first = first_past around.previous around.next list.first; count = list.count - 1 }

-- the links, once the arc at this place is linked before the first of its list
abbrev pub links_from : Side → ℕ → Option ℕ → Arena Link → Arena Link
links_from side place first links =
    at_option
    (at_option links (Some place) (with_neighbours side (record { next = first; previous = None })))
    first
    (with_previous side (Some place))

-- the links, once those of the arc with these neighbours skip it
abbrev pub links_past : Side → Neighbours → Arena Link → Arena Link
links_past side around links =
    at_option (at_option links around.previous (with_next side around.next)) around.next
    (with_previous side around.previous)

-- the arcs from a place on, at most n of them, as the links name them
abbrev pub walk : Side → Arena Link → ℕ → Option ℕ → List ArcId
walk side links zero from = []
walk side links (suc n) None = []
walk side links (suc n) (Some place) =
    elim (held_at links place) [
      | None ↦ []
      | Some own ↦
          record { id = record { place = place; stamp = own.0 } } ∷ walk side links n (neighbours_of side own.1).next
    ]

-- the same, each arc with its row
abbrev pub walk_rows : Side → Arena Link → ℕ → Option ℕ → List (ArcId × Row)
walk_rows side links zero from = []
walk_rows side links (suc n) None = []
walk_rows side links (suc n) (Some place) =
    elim (held_at links place) [
      | None ↦ []
      | Some own ↦
          (record { id = record { place = place; stamp = own.0 } }, own.1.row)
          ∷ walk_rows side links n (neighbours_of side own.1).next
    ]

-- one of the lists of a node as its arcs
abbrev pub arcs_in : Side → Arena Link → Node → List ArcId
arcs_in side links node = walk side links (list_of side node).count (list_of side node).first

-- the lists of a node as their arcs
abbrev pub lists_of : Arena Link → Node → Lists
lists_of links node = record { outgoing = arcs_in Out links node; incoming = arcs_in In links node }

-- the nodes with their lists, and the arcs with their rows
abbrev pub nodes_shown : Arena Link → Arena Node → Arena Lists
nodes_shown links nodes = changed_all nodes (lists_of links)

abbrev pub rows_shown : Arena Link → Arena Row
rows_shown links = changed_all links (λ link. link.row)

-- the arc stands in the list of node n at the place `from`, after the place `before`
pub record Stands (side : Side) (links : Arena Link) (n : NodeId) (before from : Option ℕ)
    (a : ArcId) (link : Link) : Type 0 where
  pub starts : from ≡ Some a.id.place
  pub found : find links a.id ≡ Some link
  pub end : end_of side link.row ≡ n
  pub behind : (neighbours_of side link).previous ≡ before

-- the list of node n, from a place on, has these arcs
abbrev pub IsChain : Side → Arena Link → NodeId → Option ℕ → Option ℕ → List ArcId → Type 0
IsChain side links n before from [] = from ≡ None
IsChain side links n before from (a ∷ rest) =
    (link : Link) × Stands side links n before from a link
    × IsChain side links n (Some a.id.place) (neighbours_of side link).next rest

-- a list of node n has these arcs
pub record ShowsList (side : Side) (links : Arena Link) (n : NodeId) (list : ArcList) (ids : List ArcId) : Type 0 where
  pub chain : IsChain side links n None list.first ids
  pub count : list.count ≡ length ids

-- a node has these lists
abbrev pub ShowsNode : Arena Link → NodeId → Node → Lists → Type 0
ShowsNode links n node lists = (side : Side) → ShowsList side links n (list_of side node) (side_list side lists)

-- at each place there is a node with the lists that are shown there, or nothing
abbrev pub ShowsSlot : Arena Link → ℕ → Option (ℕ × Node) → Option (ℕ × Lists) → Type 0
ShowsSlot links place None None = Unit {0}
ShowsSlot links place None (Some _) = ⊥
ShowsSlot links place (Some _) None = ⊥
ShowsSlot links place (Some node) (Some shown) =
    (node.0 ≡ shown.0) × ShowsNode links (record { id = record { place = place; stamp = node.0 } }) node.1 shown.1

-- the nodes and links show these lists
pub record Shows (links : Arena Link) (nodes : Arena Node) (shown : Arena Lists) : Type 0 where
  pub places : length nodes.held ≡ length shown.held
  pub counter : nodes.counter ≡ shown.counter
  pub at : (place : ℕ) → ShowsSlot links place (held_at nodes place) (held_at shown place)
