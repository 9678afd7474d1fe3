-- Two's complement: the number of w bytes that is read as a signed one is one of w bytes (`unsigned-below`), and is read as it (`read_back`).
pub use Rattle.rules.proofs.Twos.{unsigned-below, read_back}
