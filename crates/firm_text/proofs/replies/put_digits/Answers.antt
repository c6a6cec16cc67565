use Rattle.std.proofs.lemmas.Grind.{common_steps}
use Rattle.std.proofs.Common.{arith}
use Rattle.firm_text.proofs.Puts.{digit_added}
use Rattle.firm_text.proofs.replies.put_digits.Goals as goal

pub returns-then-number-lt10-clause-added : goal.returns-then-number-lt10-clause-added
returns-then-number-lt10-clause-added c =
    digit_added c.push.new.self.items c.args.text.now.items c.args.number
    (let small = c.if-number-lt10.true in omega arith) c.in_ok-push.ensures.items

pub returns-in_err-push-clause-kept : goal.returns-in_err-push-clause-kept
returns-in_err-push-clause-kept c = grind (arith, common_steps)

pub returns-then-number-lt10-clause-kept : goal.returns-then-number-lt10-clause-kept
returns-then-number-lt10-clause-kept c = grind (arith, common_steps)
