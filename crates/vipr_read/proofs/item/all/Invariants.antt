use Rattle.std.proofs.Common.{◌≡◌, ◌-◌, length, map}
use Rattle.std.specs.{List.All, Option.IsSome}
use Rattle.vipr_spec.specs.Certificate.{Problem, variables as variables_in}
use Rattle.vipr_spec.specs.Reading.{read_each}
use Rattle.vipr_scan.specs.Giving.{rest_of}
use Rattle.vipr_read.specs.Parsing.{Retains, with_front}
use Rattle.vipr_read.proofs.item.all.Given as goal

abbrev pub invariant-loop : goal.invariant-loop
invariant-loop g l = record {
  kept : Retains l.initial.parser l.parser;
  so_many : length l.items.items ≡ l.counter;
  shape : All (g.I.ItemKind.shape l.initial.parser.variables) (map g.I.ItemKind.view l.items.items);
  fits : All g.I.ItemKind.fits (map g.I.ItemKind.view l.items.items);
  known : IsSome l.initial.parser.rest → (p : Problem) → l.initial.parser.variables ≡ variables_in p
      → l.objective ≡ p.objective → IsSome l.parser.rest;
  read : IsSome l.initial.parser.rest → (p : Problem) → l.initial.parser.variables ≡ variables_in p
      → l.objective ≡ p.objective →
      with_front (map g.I.ItemKind.view l.items.items)
      (read_each (g.I.ItemKind.reading p) (l.count - l.counter) (rest_of l.parser.rest)) ≡
      read_each (g.I.ItemKind.reading p) l.count (rest_of l.initial.parser.rest);
}
