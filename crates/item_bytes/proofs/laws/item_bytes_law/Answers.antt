use Rattle.item_bytes.proofs.Pieces.{items_pieces, reads_then}
use Rattle.item_bytes.proofs.Spelled.{is_spelled, read_exactly}
use Rattle.item_bytes.specs.Reader.{beginning}
use Rattle.item_bytes.proofs.laws.item_bytes_law.Goals as goal

pub returns-clause-pieces : goal.returns-clause-pieces
returns-clause-pieces c = items_pieces

pub returns-clause-state : goal.returns-clause-state
returns-clause-state c = reads_then beginning

pub returns-clause-whole : goal.returns-clause-whole
returns-clause-whole c = is_spelled

pub returns-clause-exact : goal.returns-clause-exact
returns-clause-exact c = read_exactly
