-- Graphs that are the same but for the flow, one after another.
use Rattle.std.proofs.Common.{◌≡◌, Bool, true, false, refl, sym, ap, subst, ◌∙◌, ⊎_elim}
use Rattle.std.proofs.lemmas.Bool.{cases_Bool}
use Rattle.firm_net.specs.Net.{Net}
use Rattle.firm_paths.specs.NetArcs.{limits_of}
use Rattle.firm_graph.specs.View.{IsSameCase}
use Rattle.firm_graph.specs.Graph.{Graph}
use Rattle.firm_graph.specs.Ids.{node_id, arc_id, view_of}
use Rattle.firm_graph.specs.declared.network.Node.{Node}
use Rattle.firm_graph.specs.declared.network.Node.TheVariants.{Sink, Hub, Machine, Owner, Task}
use Rattle.firm_graph.specs.declared.network.Key.{Key}
use Rattle.firm_graph.specs.declared.network.Key.TheVariants.{Through, Slot, Exit, Wide, Stay, Wait, Prefer}
use Rattle.firm_canon.specs.inner.Graphs.{IsSameGraph}

pub same_self : (g : Graph) → IsSameGraph g g
same_self g = record { graph = refl; case = record { case = refl; node = refl; arc = refl }; limits = refl }

at_node : (g : Graph) (net : Net) (node : Node) → node_id (record g { net = net }) node ≡ node_id g node
at_node g net Sink = refl
at_node g net Hub = refl
at_node g net (Machine j) = refl
at_node g net (Owner k) = refl
at_node g net (Task i) = refl

at_key : (g : Graph) (net : Net) (key : Key) → arc_id (record g { net = net }) key ≡ arc_id g key
at_key g net (Through j) = refl
at_key g net (Slot j k) = refl
at_key g net (Exit k) = refl
at_key g net (Wide i) = refl
at_key g net (Stay i) = refl
at_key g net (Wait i) = refl
at_key g net (Prefer i k) = refl

-- a graph whose net alone is another
pub same_renetted : (old new : Graph) (net : Net) → new ≡ record old { net = net }
    → limits_of new.net ≡ limits_of old.net → IsSameGraph old new
same_renetted old new net e limits = record {
  graph = e ∙ ap (λ (n : Net). let g : Graph = record old { net = n } in g) (sym (ap (λ (g : Graph). g.net) e));
  case = subst (λ (g : Graph). IsSameCase (view_of old) (view_of g)) (sym e) (record {
    case = refl;
    node = λ i x. at_node old net x i;
    arc = λ i x. at_key old net x i;
  });
  limits = limits;
}

-- the same where a call changed the net or nothing
pub same_or_renetted : (old new : Graph) (net : Net) (changed : Bool)
    → (changed ≡ true → new ≡ record old { net = net })
    → (changed ≡ false → new ≡ old) → limits_of new.net ≡ limits_of old.net → IsSameGraph old new
same_or_renetted old new net changed changes stays limits = ⊎_elim
    (λ (t : changed ≡ true). same_renetted old new net (changes t) limits)
    (λ (f : changed ≡ false). subst (IsSameGraph old) (sym (stays f)) (same_self old))
    (cases_Bool changed)

pub same_on : (old now new : Graph) → IsSameGraph old now → IsSameGraph now new → IsSameGraph old new
same_on old now new first then = record {
  graph = then.graph ∙ ap (λ (g : Graph). let h : Graph = record g { net = new.net } in h) first.graph;
  case = record {
    case = then.case.case ∙ first.case.case;
    node = then.case.node ∙ first.case.node;
    arc = then.case.arc ∙ first.case.arc;
  };
  limits = then.limits ∙ first.limits;
}

pub same_rows : (old new : Graph) → IsSameGraph old new → new.rows ≡ old.rows
same_rows old new same = ap (λ (g : Graph). g.rows) same.graph
