-- How definitions see the program's role.
use Rattle.sim_echo.specs.Echo.{Role}
use Rattle.sim_echo.specs.declared.echo.Role.{Role as Stored}
use Rattle.sim_echo.specs.declared.echo.Role.TheVariants as stored

abbrev pub role_of : Stored → Role
role_of (stored.Client next) = Role.Client next
role_of (stored.Server served) = Role.Server served
