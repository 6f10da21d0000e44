-- How long payloads are.
use Rattle.std.proofs.Common.{◌≡◌, ℕ, ◌+◌, ◌%◌, ◌≤◌, Bool, true, false, cond, List, [], length, take, drop, arith, refl}
use Rattle.std.proofs.lemmas.Bool.Decides.{nat_tests}
use Rattle.std.proofs.lemmas.List.{length-take}
use Rattle.xsk_umem.specs.Geometry.{Geometry, IsGeometry, IsChunkSize}
use Rattle.xsk_umem.specs.declared.batch.Item.{Item}
use Rattle.xsk_umem.specs.declared.batch.XdpDesc.{XdpDesc}
use Rattle.xsk_model.specs.Descriptor.{payload, body_of, is_valid}

length-cond : (b : Bool) (xs : List ℕ) (most : ℕ) → (b ≡ true → length xs ≤ most) → length (cond b xs []) ≤ most
length-cond true xs most h = h refl
length-cond false xs most h = omega arith

-- the bytes of a valid descriptor lie in a chunk
valid_fits : (g : Geometry) (sg : Bool) (desc : XdpDesc) → is_valid g sg desc ≡ true → desc.addr % g.chunk + desc.len ≤ g.chunk
valid_fits g sg desc valid = grind (arith, nat_tests)

pub chunk_few : (chunk : ℕ) → IsChunkSize chunk → chunk ≤ 4096
chunk_few chunk is = grind arith

-- a payload is no longer than a chunk
pub length-payload : (g : Geometry) (sg : Bool) (item : Item) → IsGeometry g → length (payload g sg item) ≤ 4096
length-payload g sg item is =
    length-cond (is_valid g sg item.desc) (take item.desc.len (drop (item.desc.addr % g.chunk) (body_of item.frame))) 4096
    (λ valid. let fits : item.desc.addr % g.chunk + item.desc.len ≤ g.chunk = valid_fits g sg item.desc valid in
    let few : g.chunk ≤ 4096 = chunk_few g.chunk is.chunk in
    omega (arith, length-take item.desc.len (drop (item.desc.addr % g.chunk) (body_of item.frame))))
