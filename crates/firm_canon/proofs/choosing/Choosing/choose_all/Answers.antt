use Rattle.std.proofs.Common.{◌≡◌, ℕ, ◌*◌, arith, refl, subst, ◌∙◌}
use Rattle.firm_rules.specs.ArenaUse.{arena_arcs}
use Rattle.firm_graph.specs.Graph.{Graph}
use Rattle.firm_canon.specs.Counts.{HasMadeUpTo}
use Rattle.firm_canon.specs.declared.choosing.Choosing.{Choosing}
use Rattle.firm_canon.proofs.Counts.{none_made, more_since}
use Rattle.firm_canon.proofs.Graphs.{same_self, same_on, same_rows}
use Rattle.firm_canon.proofs.choosing.Choosing.choose_all.Goals as goal

pub loop-task-init : goal.loop-task-init
loop-task-init c =
    let s : Choosing = c.args.self.now in
    record {
      same = same_self s.graph.now;
      graph = refl;
      scratch = refl;
      list = refl;
      searched = none_made s.scratch.now _ _;
      ready = c.requires.ready;
      so_far = omega (arith, c.requires.none, s.chosen.now.ok.0);
      count = c.requires.none;
      idle = c.requires.idle;
      room = omega arith;
    }

pub loop-task-preserved : goal.loop-task-preserved
loop-task-preserved c =
    let s : Choosing = c.args.self.now in
    let old : Graph = s.graph.now in
    let now : Graph = c.loop-task.self.graph.now in
    let kept = c.loop-task.invariant in
    let next = c.choose_next.ensures in
    record {
      same = same_on old now c.choose_next.new.self.graph.now kept.same next.same;
      graph = next.graph ∙ kept.graph;
      scratch = next.scratch ∙ kept.scratch;
      list = next.list ∙ kept.list;
      searched = more_since old now (same_rows old now kept.same)
          s.scratch.now c.loop-task.self.scratch.now c.choose_next.new.self.scratch.now
          (2 * c.loop-task.task) 2 _ kept.searched next.searched (omega arith);
      ready = next.ready;
      so_far = omega (arith, next.more, kept.so_far);
      count = omega (arith, next.len, kept.count);
      idle = next.idle;
      room = omega (arith, next.capacity, kept.room);
    }

pub returns-clause-searched : goal.returns-clause-searched
returns-clause-searched c =
    let s : Choosing = c.args.self.now in
    let done : c.loop-task.task ≡ c.args.tasks = omega (arith, c.loop-task-test.false, c.loop-task.auto.task-end) in
    subst (λ (n : ℕ). HasMadeUpTo s.scratch.now c.loop-task.self.scratch.now (2 * n) (arena_arcs s.graph.now.rows))
    done c.loop-task.invariant.searched

pub returns-clause-all : goal.returns-clause-all
returns-clause-all c =
    omega (arith, c.loop-task.invariant.so_far, c.loop-task-test.false, c.loop-task.auto.task-end)
