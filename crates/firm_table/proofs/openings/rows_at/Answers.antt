use Rattle.std.proofs.Common.{◌≡◌, ◌≤◌, ◌∙◌, refl, sym, length, arith}
use Rattle.std.specs.Prelude.{true, false}
use Rattle.firm_text.specs.Rosters.{most_places}
use Rattle.firm_table.proofs.Books.{row_opened}
use Rattle.firm_table.proofs.openings.rows_at.Goals as goal

pub returns-in-Some : goal.returns-in-Some
returns-in-Some c =
    let roster = c.args.roster.now.rows in
    let few : length roster ≤ most_places = omega (arith, c.len.ensures.few, c.len.ensures.length) in
    rw (row_opened roster few c.args.place c.requires _ (sym c.get.ensures ∙ c.in-Some.is))
    (record { count = refl; few = omega arith; some = λ some. omega arith })

pub returns-in-None : goal.returns-in-None
returns-in-None c =
    let roster = c.args.roster.now.rows in
    let few : length roster ≤ most_places = omega (arith, c.len.ensures.few, c.len.ensures.length) in
    rw (row_opened roster few c.args.place c.requires _ (sym c.get.ensures ∙ c.in-None.is))
    (record { count = refl; few = omega arith; some = λ some. absurd (let wrong : false ≡ true = some in cc) })
