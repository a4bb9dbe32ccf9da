use Rattle.cobaltmidge.specs.KeptStreams.{unread}
use Rattle.cobaltmidge.proofs.texts.read_bytes.Goals as goal

pub returns-in-Err-clause-cause : goal.returns-in-Err-clause-cause
returns-in-Err-clause-cause g c = unread _ c.in-Err.fault c.requires c.in-Err.ensures.fault
