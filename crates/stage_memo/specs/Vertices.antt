-- The vertex of a number of a network.
use Rattle.std.specs.Prelude.{ℕ}
use Rattle.sheet.specs.Nets.{Net, row, after, before}
use Rattle.stage_memo.specs.declared.vertices.Vertex.{Vertex}

abbrev pub vertex_of : Net → ℕ → Vertex
vertex_of n v = record {
  acc = (row n v).acc;
  cpu = (row n v).cpu;
  size = (row n v).size;
  link = (row n v).link;
  predecessors = before n v;
  successors = after n v;
}
