-- Laws: the lemmas that other crates may cite, by the file that proves them

-- Items that keep the limits, as they are tested and as the definitions see them
pub use Rattle.vipr_cert.proofs.Within.{each_from}
