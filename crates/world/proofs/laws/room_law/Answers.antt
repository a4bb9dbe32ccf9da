use Rattle.protocol_laws.specs.World.RoomNeedLaws.{gets_more, need_is_held, need_is_shown, node_need_is_found, still_shows_need}
use Rattle.world.proofs.laws.room_law.Goals as goal

pub returns-clause-still : goal.returns-clause-still
returns-clause-still c = still_shows_need

pub returns-clause-found : goal.returns-clause-found
returns-clause-found c = node_need_is_found

pub returns-clause-shown : goal.returns-clause-shown
returns-clause-shown c = need_is_shown

pub returns-clause-held : goal.returns-clause-held
returns-clause-held c = need_is_held

pub returns-clause-more : goal.returns-clause-more
returns-clause-more c = gets_more
