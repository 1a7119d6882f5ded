use Rattle.vipr_table.proofs.KeepAllLemmas.{set-forget, was_shown}
use Rattle.vipr_table.proofs.rows.keep_all.forget.Goals as goal

pub returns : goal.returns
returns c =
    record {
      items = set-forget c.args.kept.now.items c.args.at c.index_mut-kept.result.now c.requires
          c.index_mut-kept.ensures.value;
      count = was_shown c.args.kept.now.items c.args.at c.index_mut-kept.result.now c.requires
          c.index_mut-kept.ensures.value;
    }
