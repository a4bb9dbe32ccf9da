-- What a host's fault comes to.
use Rattle.host.specs.declared.fault.HostFault.{HostFault}
use Rattle.host.specs.declared.fault.HostFault.TheVariants as host
use Rattle.run_files.specs.declared.fault.FilesFault.{FilesFault}
use Rattle.run_files.specs.declared.fault.FilesFault.TheVariants.{NoMemory, OtherState, Failed}

-- this refusal, unless memory is missing
abbrev pub or_memory : FilesFault → HostFault → FilesFault
or_memory refusal host.NoMemory = NoMemory
or_memory refusal host.NotThere = refusal
or_memory refusal host.IsThere = refusal
or_memory refusal host.InUse = refusal
or_memory refusal host.NotEmpty = refusal
or_memory refusal host.NoFolder = refusal
or_memory refusal host.Other = refusal

-- what it comes to where a file of the folder isn't read or opened: the folder is another's where the file isn't there
abbrev pub of_missing : HostFault → FilesFault
of_missing host.NotThere = OtherState
of_missing host.NoMemory = Failed
of_missing host.IsThere = Failed
of_missing host.InUse = Failed
of_missing host.NotEmpty = Failed
of_missing host.NoFolder = Failed
of_missing host.Other = Failed
