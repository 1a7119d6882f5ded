use Rattle.std.proofs.Common.{ℕ, ◌<◌, Result, Ok, Err, IfOk}
use Rattle.vipr_bytes.proofs.source.FromReadSource.read.Goals as goal

whatever_came : {E : Type 0} (r : Result ℕ E) (P : Type 0) → P → IfOk r (λ n. 0 < n → P)
whatever_came (Ok n) P p = λ some. p
whatever_came (Err e) P p = tt

pub returns-clause-bound : goal.returns-clause-bound
returns-clause-bound g c = whatever_came c.answer.result _ c.in_ok-count.ensures.bound
