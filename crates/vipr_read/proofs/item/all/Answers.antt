use Rattle.std.proofs.Common.{◌∷◌, [], length-append, arith, ◌∙◌, map, subst}
use Rattle.std.proofs.lemmas.Result.{err_from_is_err_and}
use Rattle.std.proofs.{lemmas.List.map_push, lemmas.List.Elements.All-push}
use Rattle.vipr_spec.specs.Reading.{read_each}
use Rattle.vipr_scan.specs.Giving.{rest_of}
use Rattle.vipr_read.proofs.{Keeping.kept_on, Repeating.goes_on, Repeating.ends, Repeating.is_done}
use Rattle.vipr_read.proofs.item.all.Goals as goal

pub returns-in_err-next-clause-read : goal.returns-in_err-next-clause-read
returns-in_err-next-clause-read g c p variables objective =
    let q = err_from_is_err_and c.from_residual.result c.from_residual.ensures.1 in
    let item = g.I.ItemKind.reading p in
    let r = c.in_err-next.ensures.read p (c.loop.invariant.kept.variables ∙ variables) objective in
    rw (q.1, q.2) (
      kept_on _ _ _ c.loop.invariant.kept r.0,
      λ known.
          ends item c.in_err-next.field-0.0 (map g.I.ItemKind.view c.loop.items.items) c.args.count
          c.loop.counter (rest_of c.loop.parser.rest)
          (read_each item c.args.count (rest_of c.args.parser.now.rest)) c.loop-test.true
          (r.1 (c.loop.invariant.known known p variables objective))
          (c.loop.invariant.read known p variables objective),
    )

pub loop-preserved : goal.loop-preserved
loop-preserved g c =
    let x = c.in_ok-next.next in
    let view = g.I.ItemKind.view in
    let n = c.args.parser.now.variables in
    let pushed = c.in_ok-push_among.ensures.items in
    let more = map_push view c.loop.items.items x in
    let fits = subst (λ n. g.I.ItemKind.shape n (view x)) c.loop.invariant.kept.variables c.in_ok-next.ensures.item.0 in
    record {
      kept = kept_on _ _ _ c.loop.invariant.kept c.in_ok-next.ensures.kept;
      so_many = rw pushed (omega (arith, length-append c.loop.items.items (x ∷ []), c.loop.invariant.so_many));
      shape = rw (pushed, more)
          (All-push (g.I.ItemKind.shape n) (map view c.loop.items.items)
          (view x) c.loop.invariant.shape fits);
      fits = rw (pushed, more)
          (All-push g.I.ItemKind.fits (map view c.loop.items.items) (view x) c.loop.invariant.fits
          c.in_ok-next.ensures.item.1);
      known = λ known p variables objective.
          ((c.in_ok-next.ensures.read p (c.loop.invariant.kept.variables ∙ variables) objective).1
          (c.loop.invariant.known known p variables objective)).1;
      read = λ known p variables objective.
          let item = g.I.ItemKind.reading p in
          let r = (c.in_ok-next.ensures.read p (c.loop.invariant.kept.variables ∙ variables)
          objective).1 (c.loop.invariant.known known p variables objective) in
          rw (pushed, more) (goes_on item (map view c.loop.items.items) c.args.count c.loop.counter
          (rest_of c.loop.parser.rest) (rest_of c.parse.new.parser.rest) (view x)
          (read_each item c.args.count (rest_of c.args.parser.now.rest)) c.loop-test.true r.0
          (c.loop.invariant.read known p variables objective));
    }

pub returns-clause-read : goal.returns-clause-read
returns-clause-read g c p variables objective = (
  c.loop.invariant.kept,
  λ known. (
    is_done (g.I.ItemKind.reading p) (map g.I.ItemKind.view c.loop.items.items) c.args.count
        c.loop.counter (rest_of c.loop.parser.rest)
        (read_each (g.I.ItemKind.reading p) c.args.count (rest_of c.args.parser.now.rest))
        (omega arith) (c.loop.invariant.read known p variables objective),
    c.loop.invariant.known known p variables objective,
  ),
)
