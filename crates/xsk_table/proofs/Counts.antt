-- Counts that wrap, and packed descriptors.
use Rattle.std.proofs.Common.{◌≡◌, ℕ, refl, arith}
use Rattle.xsk_umem.specs.declared.batch.XdpDesc.{XdpDesc}
use Rattle.xsk_table.specs.Words.{PackedBack, UnpackedBack, UsedIs}

pub used_is : UsedIs
used_is producer consumer le lt = omega arith

pub unpacked_back : UnpackedBack
unpacked_back first second = (refl, omega arith)

same_desc : (addr len options len' options' : ℕ) → len' ≡ len → options' ≡ options → record { addr = addr; len = len'; options = options' } ≡ (let d : XdpDesc = record { addr = addr; len = len; options = options } in d)
same_desc addr len options len' options' e f = λ i. record { addr = addr; len = e i; options = f i }

pub packed_back : PackedBack
packed_back desc lt = same_desc desc.addr desc.len desc.options _ _ (omega arith) (omega arith)
