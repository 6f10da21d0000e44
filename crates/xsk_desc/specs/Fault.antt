-- The fault of a descriptor: the first of the four conditions of a valid one that fails, in this order, which is this
-- project's own.
use Rattle.std.specs.Prelude.{Bool, not, if◌then◌else◌, Option, Some, None}
use Rattle.xsk_umem.specs.Geometry.{Geometry}
use Rattle.xsk_umem.specs.declared.batch.XdpDesc.{XdpDesc}
use Rattle.xsk_model.specs.Descriptor.{is_inside, has_bytes, fits_chunk, has_known_options}
use Rattle.xsk_desc.specs.declared.descriptor.DescError.{DescError}
use Rattle.xsk_desc.specs.declared.descriptor.DescError.TheVariants.{OutOfUmem, ZeroLength, CrossesChunk, UnknownOptions}

abbrev pub fault_of : Geometry → Bool → XdpDesc → Option DescError
fault_of g sg desc =
    if not (is_inside g desc) then Some OutOfUmem
    else if not (has_bytes desc) then Some ZeroLength
    else if not (fits_chunk g desc) then Some CrossesChunk
    else if not (has_known_options sg desc) then Some UnknownOptions
    else None
