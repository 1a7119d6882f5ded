use Rattle.std.proofs.Common.{◌≡◌, ◌<◌, ◌∙◌, ℕ, arith, ap, sym, subst, length, get_or, OnOk}
use Rattle.vipr_spec.specs.{Fraction.ℚ, Fraction.zero_ℚ, MoreEntries.TermFits}
use Rattle.vipr_linear.specs.Accumulator.{with_term}
use Rattle.vipr_rules.specs.Columns.{nth, given_of}
use Rattle.vipr_rules.proofs.ColumnLemmas.{listed_read, added_length, given_entries, has_entries}
use Rattle.vipr_rules.proofs.ColumnLemmas.{as_many}
use Rattle.vipr_rules.proofs.columns.add_listed.Goals as goal

pub bounds-cons-index : goal.bounds-cons-index
bounds-cons-index c =
    let within = has_entries (given_of c.args.cons.now) c.args.index c.args.place
    c.requires.place.1.1.0 in
    omega (arith, within, as_many c.args.cons.now)

pub bounds-entries-place : goal.bounds-entries-place
bounds-entries-place c =
    let found = c.requires.place.1.1 in
    let within = has_entries (given_of c.args.cons.now) c.args.index c.args.place found.0 in
    let same = given_entries c.args.cons.now c.args.index c.index-cons-index.result
    (omega (arith, within, as_many c.args.cons.now)) c.index-cons-index.is c.entries.result.now
    c.entries.ensures.list in
    subst (λ xs. c.args.place < length xs) same found.0

pub bounds-entries-place-2 : goal.bounds-entries-place-2
bounds-entries-place-2 c =
    let found = c.requires.place.1.1 in
    let within = has_entries (given_of c.args.cons.now) c.args.index c.args.place found.0 in
    let same = given_entries c.args.cons.now c.args.index c.index-cons-index.result
    (omega (arith, within, as_many c.args.cons.now)) c.index-cons-index.is c.entries.result.now
    c.entries.ensures.list in
    subst (λ xs. c.args.place < length xs) same found.0

pub returns : goal.returns
returns c =
    let call = c.add_product in
    let i = c.args.index in
    let found = c.requires.place.1.1 in
    let within = has_entries (given_of c.args.cons.now) i c.args.place found.0 in
    let same = given_entries c.args.cons.now i c.index-cons-index.result
    (omega (arith, within, as_many c.args.cons.now)) c.index-cons-index.is c.entries.result.now
    c.entries.ensures.list in
    record {
      fits = λ j h ok.
          subst (λ v. TermFits (get_or c.args.sums.now i zero_ℚ) v c.args.coordinate)
          (ap (λ (q : ℕ × ℚ). q.1) (sym c.index-entries-place.is)
          ∙ listed_read (nth (given_of c.args.cons.now) i) j c.args.place h.1
          c.entries.result.now same c.index-entries-place.result c.index-entries-place.is)
          (call.ensures.fits.0 ok);
      sum = λ j h.
          subst (λ v. OnOk call.result
          (call.new.self ≡ with_term c.args.sums.now v (i, c.args.coordinate)))
          (ap (λ (q : ℕ × ℚ). q.1) (sym c.index-entries-place.is)
          ∙ listed_read (nth (given_of c.args.cons.now) i) j c.args.place h.1
          c.entries.result.now same c.index-entries-place.result c.index-entries-place.is)
          call.ensures.sum;
      constraints = added_length call.result c.args.sums.now call.new.self _
          (i, c.args.coordinate) call.ensures.sum call.ensures.kept;
    }
