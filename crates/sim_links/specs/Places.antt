-- Directions stored with their places, and the links that they represent.
use Rattle.std.specs.Prelude.{List, slice_set}
use Rattle.std.specs.List.{fold}
use Rattle.sim_links.specs.Link.{Links, all_open}
use Rattle.sim_links.specs.declared.kept.Kept.{Kept}

abbrev pub with_kept : {M : Type 0} → Links M → Kept M → Links M
with_kept links kept = slice_set links kept.place kept.direction

-- the links that are open everywhere except at these places
abbrev pub links_of : {M : Type 0} → List (Kept M) → Links M
links_of all = fold with_kept all_open all
