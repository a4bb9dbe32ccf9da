-- The world of no run.
use Rattle.std.specs.Prelude.{[]}
use Rattle.protocol.specs.World.Common.{WorldView}

abbrev pub no_world : WorldView
no_world = record {
  net = record { channels = []; codes = [] };
  inputs = [];
  stations = [];
  traffic = record { queues = []; rules = [] };
  round = 0;
  rooms = [];
}
