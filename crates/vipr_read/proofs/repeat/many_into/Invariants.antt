use Rattle.std.proofs.Common.{◌≡◌, ◌-◌, length, map}
use Rattle.std.specs.{List.All, Option.IsSome}
use Rattle.vipr_spec.specs.Reading.{read_each}
use Rattle.vipr_scan.specs.Giving.{rest_of}
use Rattle.vipr_read.specs.Parsing.{Retains, with_front}
use Rattle.vipr_read.proofs.repeat.many_into.Given as goal

abbrev pub invariant-loop : goal.invariant-loop
invariant-loop g l = record {
  kept : Retains l.initial.parser l.parser;
  so_many : length l.parts.items ≡ l.counter;
  shape : All (g.P.Part.shape l.part l.initial.parser.variables) l.parts.items;
  known : IsSome l.initial.parser.rest → IsSome l.parser.rest;
  read : IsSome l.initial.parser.rest →
      with_front (map g.P.Part.view l.parts.items)
      (read_each (g.P.Part.reading l.part l.initial.parser.variables) (l.count - l.counter)
      (rest_of l.parser.rest)) ≡ read_each (g.P.Part.reading l.part l.initial.parser.variables)
      l.count (rest_of l.initial.parser.rest);
}
