-- The service as the code keeps it.
use Rattle.firm_table.specs.Openings.{opened}
use Rattle.firm_table.specs.Progress.{State, state_is}
use Rattle.firm_table.specs.declared.serving.Service.{Service}

-- the state of the struct that serves
abbrev pub state_of : Service → State
state_of service = state_is (opened service.opening) service.tenants service.output.items
