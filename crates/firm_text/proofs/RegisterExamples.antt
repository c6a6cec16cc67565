-- Places of tenants that come and go, computed at a worked example.
use Rattle.std.proofs.Common.{◌≡◌, List, [], ◌∷◌, Some, None, Ok, Err, refl, codes, length}
use Rattle.std.specs.Prelude.{replicate}
use Rattle.firm_rules.specs.Limits.{TenantLimits}
use Rattle.firm_text.specs.Registers.{admissions_at, first_places, most_admissions, occupied, place_for, place_in}
use Rattle.firm_text.specs.Registers.{vacant, with_tenant, without_tenant}
use Rattle.firm_text.specs.declared.operator.OperatorRefusal.TheVariants.{TenantExists, Full}
use Rattle.firm_text.specs.declared.registers.Entry.{Entry}

abbrev limits : TenantLimits
limits = record { nodes = 2; arcs = 0; life = 1; spread = 0; churn = 0; remote = 0; patience = 1000000 }

-- a service that begins with the tenants a and b
abbrev places : List Entry
places = first_places ((codes "a", limits) ∷ (codes "b", limits) ∷ [])

sixty_four : length places ≡ 64
sixty_four = refl

second : place_in places (codes "b") ≡ Some 1
second = refl

nowhere : place_in places (codes "c") ≡ None
nowhere = refl

-- a row of the roster counts as one admission
one_admission : admissions_at places 1 ≡ 1
one_admission = refl

-- c is given the third place; a second b is refused
third : place_for places (codes "c") ≡ Ok 2
third = refl

twice : place_for places (codes "b") ≡ Err TenantExists
twice = refl

-- once a has left, c is given its place, for the second time
left : place_in (without_tenant places 0) (codes "a") ≡ None
left = refl

again : place_for (without_tenant places 0) (codes "c") ≡ Ok 0
again = refl

second_time : admissions_at (with_tenant (without_tenant places 0) 0 (codes "c")) 0 ≡ 2
second_time = refl

-- a place that was given 32,768 times is passed over
passed_over : place_for (vacant most_admissions ∷ vacant 5 ∷ []) (codes "c") ≡ Ok 1
passed_over = refl

-- no place is left where each has a tenant, or is used up
full : place_for (replicate 64 (occupied (codes "a") 1)) (codes "c") ≡ Err Full
full = refl

used_up : place_for (replicate 64 (vacant most_admissions)) (codes "c") ≡ Err Full
used_up = refl
