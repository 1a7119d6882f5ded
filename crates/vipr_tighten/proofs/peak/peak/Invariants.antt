use Rattle.std.proofs.Common.{◌≡◌, ◌+◌, ◌<◌, ℕ, length, map, max, slice_index_or}
use Rattle.std.specs.List.{range_with_len, count_by, fold}
use Rattle.vipr_spec.specs.Certificate.{count_held}
use Rattle.vipr_tighten.specs.Dropping.{is_held_until, is_dropped_after}
use Rattle.vipr_tighten.proofs.Held.{drop_at, certificate_of}
use Rattle.vipr_tighten.proofs.peak.peak.Given as goal

abbrev pub invariant-loop-place : goal.invariant-loop-place
invariant-loop-place l = record {
  until : l.held ≡ count_by
      (λ i. is_held_until (l.first + l.place) (drop_at (certificate_of l.first l.steps) i))
      (range_with_len l.first l.place);
  most_is : l.most ≡ fold max 0 (map (count_held (certificate_of l.first l.steps)) (range_with_len l.first l.place));
  size : length l.dropped.items ≡ length l.steps;
  each : (k : ℕ) → k < length l.steps → slice_index_or l.dropped.items k 0 ≡ count_by
      (λ i. is_dropped_after (l.first + k) (drop_at (certificate_of l.first l.steps) i))
      (range_with_len l.first l.place);
}
