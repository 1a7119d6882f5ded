use Rattle.std.proofs.Common.{Ok}
use Rattle.vipr_rules.specs.Profile.{profile_of}
use Rattle.vipr_tighten.specs.Tightens.{TightensText}
use Rattle.vipr_command.specs.Tighten.{WritesTightened}
use Rattle.vipr_command.proofs.{InputLemmas.of_input, TightenLemmas.known}
use Rattle.vipr_command.proofs.tighten.write_tightened.Goals as goal

pub returns : goal.returns
returns g c =
    let P = profile_of c.args.job.now.profile in
    let F = c.args.job.now.form in
    let source = g.R.Source.input c.args.source in
    let old = g.W.Sink.output c.args.sink.now in
    let new = g.W.Sink.output c.tighten_as.new.sink in
    let x = c.in_ok-outcome.outcome in
    of_input source (λ k. TightensText P F (k.proof P) old new (Ok x))
    (λ k. WritesTightened P F (k.proof P) old new (Ok c.of_outcome.result))
    (λ k h. (Ok x, c.of_outcome.ensures, h))
    (known P F source old new (Ok x) c.in_ok-outcome.ensures.tightens)
