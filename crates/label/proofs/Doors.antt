-- Each door of a scheme has just one label.
use Rattle.std.proofs.Common.{◌≡◌, ℕ, ◌-◌, ◌<◌, ◌≤◌, List, sym, ◌∙◌}
use Rattle.arithmetic.specs.Meaning.{Meaning, Lawful}
use Rattle.label.specs.Labels.{Different, EachDoor, Label, LabelOf, door}
use Rattle.label.proofs.Apart.{same_door}
use Rattle.label.proofs.Printed.{each_door_exists}

module _ (m : Meaning) (L : Lawful m) (n k : ℕ) (different : Different m n) where
  pub label_of : (d : ℕ) (row : List ℕ) → Label m n (n - k) row → door m.size k row ≡ d → LabelOf m n k d row
  label_of d row label its_door = record {
    label = label;
    its_door = its_door;
    only = λ other l e. same_door m L n k different other row l label (e ∙ sym its_door);
  }

  pub each_door : 1 ≤ k → k < n → EachDoor m n k
  each_door some less d low =
      let e = each_door_exists m L.closed L.ring L.step_in n k some less d low in
      (e.0, label_of d e.0 e.1.0 e.1.1)
