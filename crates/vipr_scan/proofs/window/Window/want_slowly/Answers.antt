use Rattle.vipr_scan.specs.View.{view_of_answer, view_of_found, rest_of_window}
use Rattle.vipr_scan.proofs.Wanted.{short_known, behind_of}
use Rattle.vipr_scan.proofs.window.Window.want_slowly.Goals as goal

pub returns : goal.returns
returns g c = record {
  read = short_known (rest_of_window g.R.Source.input c.args.self.now)
      (rest_of_window g.R.Source.input c.advance.new.self)
      (view_of_found c.advance.new.self.buf.value c.in-Some.found)
      (rw c.in-Some.is at c.in_ok-found.ensures.answer) c.if-found.false
      (rw c.in-Some.is at c.in_ok-found.ensures.left c.if-found.false);
  behind = behind_of (rest_of_window g.R.Source.input c.args.self.now)
      (rest_of_window g.R.Source.input c.advance.new.self)
      (view_of_answer (view_of_found c.advance.new.self.buf.value) c.advance.result)
      c.advance.ensures.answer c.advance.ensures.left;
  found = rw c.in-Some.is at c.in_ok-found.ensures.found;
  error = tt;
}
