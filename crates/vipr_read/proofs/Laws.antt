-- Laws: the lemmas that other crates may cite, by the file that proves them

-- What is so of what a source gives, where that is known
pub use Rattle.vipr_read.proofs.Whole.{known_by, whole_by, whole_is}
