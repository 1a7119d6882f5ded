use Rattle.std.proofs.Common.{pos, sym, ap, ◌∙◌, ℕ}
use Rattle.std.specs.{Int.w128, Ordering.int_cmp, Prelude.◌*ℤ◌}
use Rattle.std.proofs.lemmas.Int.{to_z-of_z}
use Rattle.vipr_frac.proofs.Compared.{int_cmp-scale}
use Rattle.vipr_frac.proofs.frac.compare_fractions.Goals as goal

pub returns-then-q-s : goal.returns-then-q-s
returns-then-q-s c =
    c.cmp.ensures ∙ rw (to_z-of_z w128 c.args.p c.ranges.p, to_z-of_z w128 c.args.r c.ranges.r)
    (sym (int_cmp-scale c.args.p c.args.r c.args.s c.requires.s)
    ∙ ap (λ (n : ℕ). int_cmp (c.args.p *ℤ pos c.args.s) (c.args.r *ℤ pos n))
    (sym c.if-q-s.true))
