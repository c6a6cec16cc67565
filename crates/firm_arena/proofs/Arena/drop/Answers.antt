use Rattle.std.proofs.Common.{◌≡◌, ℕ, subst, arith}
use Rattle.firm_arena.proofs.SlotLemmas.{IsReadTo, read_to_end}
use Rattle.firm_arena.proofs.Arena.drop.Goals as goal

pub free-requires : goal.free-requires
free-requires g c =
    let at_end : c.loop-place.place ≡ c.self.inside.used = omega arith in
    read_to_end _ c.self.inside.used
    (subst (λ (place : ℕ). IsReadTo c.loop-place.block c.self.inside.used place) at_end c.loop-place.invariant)
