-- What the slots of a machine cost.
use Rattle.std.proofs.Common.{◌≡◌, ℕ, zero, suc, ◌+◌, ◌-◌, ◌*◌, ◌/◌, ◌<◌, ◌≤◌, refl, sym, ap, ◌∙◌, arith}
use Rattle.std.proofs.Math.Nat.{mul_comm, mul-add, mul-zero, mul-le-mul, add-mul-div_right}
use Rattle.firm_rules.specs.Placement.{total, slot_cost, load_cost}
use Rattle.firm_rules.specs.SlotCosts.{LoadsAreSumsOfSlots, LaterSlotsCostNoLess, SlotsCostAtMost}

half : (n : ℕ) → suc n * (suc n - 1) / 2 ≡ n * (n - 1) / 2 + n
half zero = refl
half (suc m) =
    let product : suc (suc m) * suc m ≡ suc m * m + suc m * 2 = omega arith in
    let long : suc (suc m) - 1 ≡ suc m = omega arith in
    let short : suc m - 1 ≡ m = omega arith in
    let two : 0 < 2 = omega arith in
    ap (λ z. suc (suc m) * z / 2) long ∙ ap (λ z. z / 2) product
    ∙ ap (λ z. (suc m * z + suc m * 2) / 2) (sym short) ∙ add-mul-div_right (suc m * (suc m - 1)) (suc m) two

pub load-step : (spread n : ℕ) → load_cost spread (suc n) ≡ load_cost spread n + slot_cost spread n
load-step spread n =
    ap (λ z. spread * z) (half n) ∙ mul-add spread (n * (n - 1) / 2) n
    ∙ ap (λ z. load_cost spread n + z) (mul_comm spread n)

pub sums : LoadsAreSumsOfSlots
sums spread zero = mul-zero spread
sums spread (suc n) = omega (arith, load-step spread n, sums spread n)

pub rises : LaterSlotsCostNoLess
rises spread earlier later l = mul-le-mul l (let same : spread ≤ spread = omega arith in same)

pub within : SlotsCostAtMost
within spread k narrow few = mul-le-mul (let last : k ≤ 63 = omega arith in last) narrow

-- each task of a machine's load brings 1,000,000 to its cost at most
pub load-most : (spread n : ℕ) → spread ≤ 1000 → n ≤ 64 → load_cost spread n ≤ 1000000 * n
load-most spread zero narrow few = omega (arith, mul-zero spread)
load-most spread (suc n) narrow few =
    omega (arith, load-step spread n, load-most spread n narrow (omega (arith, few)), within spread n narrow few)
