use Rattle.std.proofs.Common.{◌∷◌, [], length-append, arith, map}
use Rattle.std.proofs.lemmas.List.Elements.{All-push}
use Rattle.std.proofs.{lemmas.List.map_push, lemmas.Result.err_from_is_err_and}
use Rattle.vipr_spec.specs.Reading.{read_each}
use Rattle.vipr_scan.specs.Giving.{rest_of}
use Rattle.vipr_read.proofs.{Keeping.kept_on, Repeating.goes_on, Repeating.ends, Repeating.is_done}
use Rattle.vipr_read.proofs.repeat.many_into.Goals as goal

pub returns-in_err-next-clause-read : goal.returns-in_err-next-clause-read
returns-in_err-next-clause-read g c =
    let p = err_from_is_err_and c.from_residual.result c.from_residual.ensures.1 in
    let item = g.P.Part.reading c.args.part.now c.args.parser.now.variables in
    let r = rw c.loop.invariant.kept.variables at c.in_err-next.ensures.read in
    rw (p.1, p.2) (
      kept_on _ _ _ c.loop.invariant.kept c.in_err-next.ensures.read.0,
      λ known.
          ends item c.in_err-next.field-0.0 (map g.P.Part.view c.loop.parts.items) c.args.count
          c.loop.counter (rest_of c.loop.parser.rest)
          (read_each item c.args.count (rest_of c.args.parser.now.rest)) c.loop-test.true
          (r.1 (c.loop.invariant.known known)) (c.loop.invariant.read known),
    )

pub loop-preserved : goal.loop-preserved
loop-preserved g c =
    let x = c.in_ok-next.next in
    let item = g.P.Part.reading c.args.part.now c.args.parser.now.variables in
    let r = rw c.loop.invariant.kept.variables at c.in_ok-next.ensures.read in
    let pushed = c.in_ok-push_among.ensures.items in
    record {
      kept = kept_on _ _ _ c.loop.invariant.kept c.in_ok-next.ensures.read.0;
      so_many = rw pushed (omega (arith, length-append c.loop.parts.items (x ∷ []), c.loop.invariant.so_many));
      shape = rw pushed
          (All-push (g.P.Part.shape c.args.part.now c.args.parser.now.variables) c.loop.parts.items
          x c.loop.invariant.shape
          (rw c.loop.invariant.kept.variables at c.in_ok-next.ensures.shape));
      known = λ known. (r.1 (c.loop.invariant.known known)).1;
      read = λ known.
          rw (pushed, map_push g.P.Part.view c.loop.parts.items x)
          (goes_on item (map g.P.Part.view c.loop.parts.items) c.args.count c.loop.counter
          (rest_of c.loop.parser.rest) (rest_of c.parse.new.parser.rest) (g.P.Part.view x)
          (read_each item c.args.count (rest_of c.args.parser.now.rest)) c.loop-test.true
          (r.1 (c.loop.invariant.known known)).0 (c.loop.invariant.read known));
    }

pub returns-clause-read : goal.returns-clause-read
returns-clause-read g c = (
  c.loop.invariant.kept,
  λ known. (
    is_done (g.P.Part.reading c.args.part.now c.args.parser.now.variables)
        (map g.P.Part.view c.loop.parts.items) c.args.count c.loop.counter
        (rest_of c.loop.parser.rest)
        (read_each (g.P.Part.reading c.args.part.now c.args.parser.now.variables) c.args.count
        (rest_of c.args.parser.now.rest)) (omega arith) (c.loop.invariant.read known),
    c.loop.invariant.known known,
  ),
)
