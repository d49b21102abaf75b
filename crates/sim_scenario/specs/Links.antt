-- The links of the reader, as the links of the format.
use Rattle.std.specs.Prelude.{◌<◌}
use Rattle.sim_scenario.specs.declared.links.LinkText.{LinkText as ReadText}
use Rattle.sim_scenario.specs.declared.links.Link.{Link as ReadLink}
use Rattle.sim_scenario.specs.Scenario.{LinkText, Link}

abbrev pub link_said : ReadText → LinkText
link_said link = record { source = link.source.now; target = link.target.now; way = link.way }

abbrev pub link_seen : ReadLink → Link
link_seen link = record { source = link.source; target = link.target; way = link.way }

-- both hosts are in the table of ways
abbrev pub IsInTable : ReadLink → Type 0
IsInTable link = (link.source < 32) × (link.target < 32)
