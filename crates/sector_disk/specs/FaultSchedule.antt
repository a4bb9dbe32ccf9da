-- What a schedule of faults shows.
use Rattle.sector_disk.specs.Schedule.{FaultState}
use Rattle.sector_disk.specs.declared.schedule.FaultSchedule.{FaultSchedule}

abbrev pub state_of : FaultSchedule → FaultState
state_of s =
    record { armed = s.armed.items; calls = s.calls; failures = s.failures; failed_call = s.failed_call; fill = s.fill }
