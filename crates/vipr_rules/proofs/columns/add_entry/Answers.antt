use Rattle.std.proofs.Common.{◌≡◌, ◌∙◌, subst, length, get_or, OnOk}
use Rattle.vipr_spec.specs.{Fraction.zero_ℚ, MoreEntries.TermFits}
use Rattle.vipr_linear.specs.Accumulator.{with_term}
use Rattle.vipr_rules.specs.Columns.{given_of}
use Rattle.vipr_rules.proofs.ColumnLemmas.{short_place, listed_place, added_length}
use Rattle.vipr_rules.proofs.columns.add_entry.Goals as goal

pub returns-in-Short : goal.returns-in-Short
returns-in-Short c =
    let cs = given_of c.args.cons.now in
    let n = length c.args.sums.now in
    let e = c.args.entry.now in
    let call = c.add_product in
    record {
      fits = λ j h ok.
          subst (λ v. TermFits (get_or c.args.sums.now e.0 zero_ℚ) v c.args.coordinate)
          (c.fraction.ensures ∙ short_place cs n j e c.in-Short.short c.in-Short.is h)
          (call.ensures.fits.0 ok);
      sum = λ j h.
          subst (λ v. OnOk call.result
          (call.new.self ≡ with_term c.args.sums.now v (e.0, c.args.coordinate)))
          (c.fraction.ensures ∙ short_place cs n j e c.in-Short.short c.in-Short.is h)
          call.ensures.sum;
      constraints = added_length call.result c.args.sums.now call.new.self _
          (e.0, c.args.coordinate) call.ensures.sum call.ensures.kept;
    }

pub add_listed-requires : goal.add_listed-requires
add_listed-requires c =
    let found = c.requires.place in
    record {
      place = (
        found.0,
        (
          found.1.0,
          listed_place (given_of c.args.cons.now) (length c.args.sums.now) found.0
              c.args.entry.now c.in-Listed.place c.in-Listed.is found.1,
        ),
      );
    }

pub returns-in-Listed : goal.returns-in-Listed
returns-in-Listed c =
    let cs = given_of c.args.cons.now in
    let n = length c.args.sums.now in
    let e = c.args.entry.now in
    let k = c.in-Listed.place in
    record {
      fits = λ j h ok.
          c.add_listed.ensures.fits j (h.0, listed_place cs n j e k c.in-Listed.is h) ok;
      sum = λ j h. c.add_listed.ensures.sum j (h.0, listed_place cs n j e k c.in-Listed.is h);
      constraints = c.add_listed.ensures.constraints;
    }
