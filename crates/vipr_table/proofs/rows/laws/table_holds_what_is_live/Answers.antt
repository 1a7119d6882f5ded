use Rattle.vipr_table.proofs.HistoryLemmas.{IsTableOf-empty, IsTableOf-step, IsTableOf-answers}
use Rattle.vipr_table.proofs.HistoryLemmas.{IsTableOf-held}
use Rattle.vipr_table.proofs.rows.laws.table_holds_what_is_live.Goals as goal

pub returns : goal.returns
returns c =
    record {
      empty = IsTableOf-empty;
      step = IsTableOf-step;
      found = IsTableOf-answers;
      counted = IsTableOf-held;
    }
