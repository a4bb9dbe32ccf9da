-- The names of networks that the crates above cite most, passed on from one place. Declares nothing.
pub use Rattle.kahn_net.specs.Approximations.{Belongs, IsReached, approximation}
pub use Rattle.kahn_net.specs.Fits.{Fits}
pub use Rattle.kahn_net.specs.NextActs.{Gets, Next, NoNext, Puts, next_of}
pub use Rattle.kahn_net.specs.Nodes.{node_count}
pub use Rattle.kahn_net.specs.Processes.{HasPassingLoop, Standing, StandsAt, loop_trace, passes, process_trace}
pub use Rattle.kahn_net.specs.Processes.{sent_on, standing_at}
pub use Rattle.kahn_net.specs.Puts.{put_after, put_by}
pub use Rattle.kahn_net.specs.Repeats.{code_repeats_within, is_repeat_within}
pub use Rattle.kahn_net.specs.Resuming.{left_after, left_by, trace_from}
pub use Rattle.kahn_net.specs.Statements.{End, Ended, Got, Point, Sent, Step, Stopped, Trace, Waits, no_steps, on_get}
pub use Rattle.kahn_net.specs.Statements.{point_at, rounds, sites_of, then_do, trace_of, value_of}
pub use Rattle.kahn_net.specs.States.{standing_in, standing_of}
pub use Rattle.kahn_net.specs.Streams.{IsPrefix, history_of, total}
pub use Rattle.kahn_net.specs.Syntax.{AssignThen, Block, Chain, Code, GetThen, IfThen, LinkThen, Links, Minus, Name}
pub use Rattle.kahn_net.specs.Syntax.{Network, NoLinks, Nothing, Number, PutThen, RepeatThen, StopThen, Tree}
pub use Rattle.kahn_net.specs.Syntax.{block_of, code_of, links_of, network_of, then_of, tree_of}
pub use Rattle.kahn_net.specs.Valid.{IsValid, block_gets, block_puts, code_gets, code_puts, is_passing}
