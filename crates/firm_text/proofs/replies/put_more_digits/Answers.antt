use Rattle.std.proofs.lemmas.Grind.{common_steps}
use Rattle.std.proofs.Common.{arith}
use Rattle.firm_text.proofs.Puts.{two_digits_added}
use Rattle.firm_text.proofs.replies.put_more_digits.Goals as goal

pub returns-then-number-lt100-clause-added : goal.returns-then-number-lt100-clause-added
returns-then-number-lt100-clause-added c =
    two_digits_added c.push-then-number-lt100.new.self.items c.push.new.self.items c.args.text.now.items c.args.number
    c.requires (let small = c.if-number-lt100.true in omega arith)
    c.in_ok-push.ensures.items c.in_ok-push-2.ensures.items

pub returns-in_err-push-clause-kept : goal.returns-in_err-push-clause-kept
returns-in_err-push-clause-kept c = grind (arith, common_steps)

pub returns-in_err-push-2-clause-kept : goal.returns-in_err-push-2-clause-kept
returns-in_err-push-2-clause-kept c = grind (arith, common_steps)

pub returns-then-number-lt100-clause-kept : goal.returns-then-number-lt100-clause-kept
returns-then-number-lt100-clause-kept c = grind (arith, common_steps)
