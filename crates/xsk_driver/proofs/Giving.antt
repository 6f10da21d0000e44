-- The frames of the items of packets that are cut from a flat list, and the numbers of the frames that are kept.
use Rattle.std.proofs.Common.{◌≡◌, ℕ, List, [], ◌∷◌, ◌++◌, length, take, drop, flat_map, sum, refl, sym, ap, ◌∙◌, arith, length-drop}
use Rattle.std.proofs.lemmas.List.{take-append-drop}
use Rattle.std.proofs.lemmas.List.Sums.{sum_by-cons}
use Rattle.xsk_umem.specs.Frame.{Frame}
use Rattle.xsk_umem.specs.declared.batch.Item.{Item}
use Rattle.xsk_model.specs.Numbers.{numbers, times}
use Rattle.xsk_model.specs.Own.{had_of}
use Rattle.xsk_turns.specs.Turns.{Judged, Kept, frames_in}
use Rattle.xsk_turns.specs.Owned.{frame_numbers, numbers_kept}
use Rattle.xsk_turns.specs.declared.wire.Wire.{Wire}
use Rattle.xsk_turns.proofs.Object.{Config}
use Rattle.xsk_turns.proofs.Calls.{Told}
use Rattle.xsk_turns.proofs.Appending.{numbers-join, numbers-items}
use Rattle.xsk_turns.proofs.Owning.{keeps_frames_at_end}
use Rattle.xsk_driver.specs.Finished.{cut_by}
use Rattle.xsk_driver.specs.Frames.{frames_kept}
use Rattle.xsk_driver.specs.Runs.{HasEnded}
use Rattle.xsk_driver.specs.Shown.{Shown}
use Rattle.xsk_driver.proofs.Steps.{frames_in-append}

pub frames_cut : (lengths : List ℕ) (items : List Item) → sum lengths ≡ length items → frames_in items ≡ flat_map frames_in (cut_by lengths items)
frames_cut [] [] all = refl
frames_cut [] (item ∷ items) all = absurd (omega (arith, all))
frames_cut (n ∷ lengths) items all =
    let later : sum lengths ≡ length (drop n items) = omega (arith, all, sum_by-cons (λ x. x) n lengths, length-drop n items) in
    ap frames_in (sym (take-append-drop n items)) ∙ frames_in-append (take n items) (drop n items) ∙ ap (λ fs. frames_in (take n items) ++ fs) (frames_cut lengths (drop n items) later)

-- ---- numbers

numbers-kept : (kept : Kept) → frame_numbers (frames_kept kept) ≡ numbers_kept kept
numbers-kept kept =
    let groups : List Frame = flat_map frames_in kept.groups in
    let finished : List Frame = flat_map frames_in kept.finished in
    let first : frame_numbers (kept.spare ++ groups) ≡ frame_numbers kept.spare ++ flat_map numbers kept.groups =
    numbers-join kept.spare groups ∙ ap (λ ns. frame_numbers kept.spare ++ ns) (numbers-items kept.groups) in
    let more : frame_numbers (kept.spare ++ groups ++ finished) ≡ frame_numbers kept.spare ++ flat_map numbers kept.groups ++ flat_map numbers kept.finished =
    numbers-join (kept.spare ++ groups) finished ∙ ap (λ ns. ns ++ frame_numbers finished) first
    ∙ ap (λ ns. frame_numbers kept.spare ++ flat_map numbers kept.groups ++ ns) (numbers-items kept.finished) in
    numbers-join (kept.spare ++ groups ++ finished) kept.lost ∙ ap (λ ns. ns ++ frame_numbers kept.lost) more

pub ended_frames : (wire : Wire) (c : Config) (pair : ℕ) (input : List Judged) (d : Shown) (l : List Told) → HasEnded wire c pair input d l
    → (n : ℕ) → times n (frame_numbers (frames_kept d.kept)) ≡ times n (had_of l)
ended_frames wire c pair input d l ended n =
    ap (times n) (numbers-kept d.kept) ∙ (keeps_frames_at_end wire c pair input l d.kept ended.one ended.own ended.ends).1 n
