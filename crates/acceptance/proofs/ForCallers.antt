-- For callers: what is made is accepted, and found good in the folder.
pub use Rattle.acceptance.proofs.Acceptable.{accepted}
pub use Rattle.acceptance.proofs.InFolder.{field_gives, first_there, found_good, found_good_beside}
