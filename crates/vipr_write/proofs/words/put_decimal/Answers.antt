use Rattle.std.proofs.{Common.sym, lemmas.Fmt.decimal_digit}
use Rattle.vipr_bytes.proofs.Laws.{puts_then, puts_same}
use Rattle.vipr_write.proofs.Digits.{two_digits}
use Rattle.vipr_write.proofs.words.put_decimal.Goals as goal

pub returns-then-n-lt10 : goal.returns-then-n-lt10
returns-then-n-lt10 g c = puts_same (sym (decimal_digit c.args.n c.if-n-lt10.true)) c.push.ensures

pub returns-then-n-lt100 : goal.returns-then-n-lt100
returns-then-n-lt100 g c = puts_same (two_digits c.args.n c.if-n-lt10.false c.if-n-lt100.true)
    (puts_then c.push-then-n-lt100.ensures c.push-then-n-lt100-2.ensures)
