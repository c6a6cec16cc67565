use Rattle.std.proofs.Common.{◌≤◌, length, rules, arith}
use Rattle.firm_text.specs.Rosters.{most_places}
use Rattle.firm_table.proofs.Books.{book_opened}
use Rattle.firm_table.proofs.openings.admitted_at.Goals as goal

pub returns-in_ok-admit-in-Some : goal.returns-in_ok-admit-in-Some
returns-in_ok-admit-in-Some c =
    let few : length c.args.roster.now.rows ≤ most_places = omega (arith, c.len.ensures.few, c.len.ensures.length) in
    rw (← book_opened c.args.roster.now.rows few c.args.place c.requires) (search rules)

pub returns-in-None : goal.returns-in-None
returns-in-None c =
    let few : length c.args.roster.now.rows ≤ most_places = omega (arith, c.len.ensures.few, c.len.ensures.length) in
    rw (← book_opened c.args.roster.now.rows few c.args.place c.requires) (search rules)
