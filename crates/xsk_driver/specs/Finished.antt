-- A flat list of items cut into packets of these lengths, in order.
use Rattle.std.specs.Prelude.{ℕ, List, [], ◌∷◌, take, drop}
use Rattle.xsk_umem.specs.declared.batch.Item.{Item}

abbrev pub cut_by : List ℕ → List Item → List (List Item)
cut_by [] items = []
cut_by (n ∷ lengths) items = take n items ∷ cut_by lengths (drop n items)
