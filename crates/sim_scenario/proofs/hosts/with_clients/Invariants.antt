use Rattle.std.proofs.Common.{◌≡◌, ◌+◌, [], map, drop, string_bytes, vec_len}
use Rattle.sim_scenario.specs.Parts as parts
use Rattle.sim_scenario.proofs.Arrays.{members_of_ref}
use Rattle.sim_scenario.proofs.hosts.with_clients.Given as goal

abbrev pub invariant-loop-table : goal.invariant-loop-table
invariant-loop-table l = record {
  same : parts.listed (map string_bytes l.fn.servers.items) [] (map members_of_ref l.tables)
      ≡ parts.listed (map string_bytes l.names.items) l.operations.items (map members_of_ref (drop l.table-index l.tables));
  counted : vec_len l.names ≡ vec_len l.fn.servers + vec_len l.operations;
}
