-- Frames that are appended to a queue one after the other, and the numbers of those in lists.
use Rattle.std.proofs.Common.{◌≡◌, ℕ, zero, suc, ◌+◌, ◌-◌, List, [], ◌∷◌, ◌++◌, length, take, flat_map, refl, sym, ap, ◌∙◌, arith, append-nil, append_assoc, length-append, length-take}
use Rattle.xsk_umem.specs.Frame.{Frame}
use Rattle.xsk_umem.specs.Frames.{Frames}
use Rattle.std.proofs.lemmas.List.{map-append}
use Rattle.xsk_umem.specs.declared.batch.Item.{Item}
use Rattle.xsk_model.specs.Numbers.{numbers}
use Rattle.xsk_turns.specs.Giving.{with_frames}
use Rattle.xsk_turns.specs.Owned.{frame_numbers}
use Rattle.xsk_turns.specs.Turns.{frames_in}
use Rattle.xsk_turns.proofs.Owned.{frame_numbers-in}

take_parts : (n m : ℕ) (xs ys : List Frame) → m + length (take n xs) ≡ n → take n (xs ++ ys) ≡ take n xs ++ take m ys
take_parts zero m xs ys e = let is : 0 ≡ m = omega (arith, e) in ap (λ k. take k ys) is
take_parts (suc n) m [] ys e = let is : suc n ≡ m = omega (arith, e) in ap (λ k. take k ys) is
take_parts (suc n) m (x ∷ xs) ys e = ap (λ zs. x ∷ zs) (take_parts n m xs ys (omega (arith, e)))

pub with_more : (queue : Frames) (xs ys : List Frame) → with_frames (with_frames queue xs) ys ≡ with_frames queue (xs ++ ys)
with_more queue xs ys =
    let n : ℕ = queue.limit - length queue.items in
    let m : ℕ = queue.limit - length (queue.items ++ take n xs) in
    let parts = take_parts n m xs ys (omega (arith, length-append queue.items (take n xs), length-take n xs)) in
    ap (λ (items : List Frame). record queue { items = items }) (append_assoc queue.items (take n xs) (take m ys) ∙ ap (λ zs. queue.items ++ zs) (sym parts))

-- a loop: what is appended and what is left are what there was
pub one_given : (first queue later : Frames) (all frames left : List Frame) (more : List Frame) → with_frames queue frames ≡ with_frames first all
    → frames ≡ more ++ left → later ≡ with_frames queue more → with_frames later left ≡ with_frames first all
one_given first queue later all frames left more so is one =
    ap (λ q. with_frames q left) one ∙ with_more queue more left ∙ ap (with_frames queue) (sym is) ∙ so

-- ---- numbers

pub numbers-join : (xs ys : List Frame) → frame_numbers (xs ++ ys) ≡ frame_numbers xs ++ frame_numbers ys
numbers-join xs ys = map-append (λ (f : Frame). f.number) xs ys

pub numbers-items : (lists : List (List Item)) → frame_numbers (flat_map frames_in lists) ≡ flat_map numbers lists
numbers-items [] = refl
numbers-items (items ∷ lists) =
    numbers-join (frames_in items) (flat_map frames_in lists) ∙ ap (λ ns. ns ++ frame_numbers (flat_map frames_in lists)) (frame_numbers-in items)
    ∙ ap (λ ns. numbers items ++ ns) (numbers-items lists)

pub numbers-frames : (lists : List (List Frame)) → frame_numbers (flat_map (λ (frames : List Frame). frames) lists) ≡ flat_map frame_numbers lists
numbers-frames [] = refl
numbers-frames (frames ∷ lists) =
    numbers-join frames (flat_map (λ (frames : List Frame). frames) lists) ∙ ap (λ ns. frame_numbers frames ++ ns) (numbers-frames lists)
