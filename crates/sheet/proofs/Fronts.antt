-- The nodes of the operators, the front of the table, read by a function f; and what a sheet keeps.
use Rattle.std.proofs.Common.{◌≡◌, ℕ, ◌+◌, ◌<◌, ◌≤◌, List, [], ◌∷◌, ◌++◌, length, get_or, map, take, set, sym, ap, ◌∙◌, arith}
use Rattle.std.proofs.lemmas.List.{length-map, length-take-le, get_or-take, get_or-map, set-get_or, map-set, map_push, take_more_set}
use lib.Seq.{take-set-lt}
use Rattle.sheet.specs.declared.nodes.Node.{Node}
use Rattle.sheet.specs.declared.sheets.Sheet.{Sheet}
use Rattle.sheet.specs.Rules.{blank}
use Rattle.sheet.specs.Nodes.{figures_in, successors_in}
use Rattle.sheet.specs.Nets.{size, after}
use Rattle.sheet.specs.Kept.{Kept}
use Rattle.sheet.specs.Views.{net}

abbrev pub blank_node : Node
blank_node = record { figures = blank; successors = 0 }

module _ {Y : Type 0} (f : Node → Y) (nodes : List Node) (n : ℕ) where
  pub front_length : n ≤ length nodes → length (map f (take n nodes)) ≡ n
  front_length room = length-map (take n nodes) f ∙ length-take-le n nodes room

  pub front_at : (v : ℕ) (d : Node) (e : Y) → n ≤ length nodes → v < n → get_or (map f (take n nodes)) v e ≡ f (get_or nodes v d)
  front_at v d e room near = get_or-map f (take n nodes) v d e (omega (arith, length-take-le n nodes room)) ∙ ap f (get_or-take n nodes v d near)

  -- one node more
  pub front_more : (x : Node) → n < length nodes → map f (take (n + 1) (set nodes n x)) ≡ map f (take n nodes) ++ (f x ∷ [])
  front_more x room = ap (map f) (take_more_set nodes n x room) ∙ map_push f (take n nodes) x

  -- another node at v
  pub front_set : (v : ℕ) (x : Node) → v < n → map f (take n (set nodes v x)) ≡ set (map f (take n nodes)) v (f x)
  front_set v x near = ap (map f) (take-set-lt n nodes v x near) ∙ map-set f (take n nodes) v x

  -- a node at v that says the same
  pub front_same : (v : ℕ) (x d : Node) → n ≤ length nodes → v < n → f x ≡ f (get_or nodes v d) → map f (take n (set nodes v x)) ≡ map f (take n nodes)
  front_same v x d room near same =
      front_set v x near ∙ ap (set (map f (take n nodes)) v) (same ∙ sym (front_at v d (f d) room near)) ∙ set-get_or (map f (take n nodes)) v (f d)

-- ---- a sheet

module _ (s : Sheet) where
  pub size_is : size (net s) ≡ s.operators
  size_is = front_length figures_in s.nodes s.operators (omega (arith, s.few, s.table))

  pub after_is : (v : ℕ) → v < s.operators → after (net s) v ≡ successors_in (get_or s.nodes v blank_node)
  after_is v near = front_at successors_in s.nodes s.operators v blank_node 0 (omega (arith, s.few, s.table)) near

  pub kept_by_sheet : Kept (net s)
  kept_by_sheet =
      record {
        few = omega (arith, size_is, s.few);
        modest = s.modest;
        masks = front_length successors_in s.nodes s.operators (omega (arith, s.few, s.table)) ∙ sym size_is;
        upward = s.upward;
        devices = s.counts.few;
      }
