-- Laws: the lemmas that other crates may cite, by the file that proves them

-- A text in memory
pub use Rattle.vipr_bytes.proofs.Grown.{grown, grown_whole}
-- A text that goes to a sink through a buffer
pub use Rattle.vipr_bytes.proofs.Handing.{put_and_finished}
-- A text that is put piece by piece
pub use Rattle.vipr_bytes.proofs.Putting.{puts_then, puts_same, puts_next_or, puts_next}
pub use Rattle.vipr_bytes.proofs.Putting.{puts_all, puts_lines}
