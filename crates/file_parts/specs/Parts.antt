-- Document 01, "Shape of a file" and "Writing and upgrading": the bytes of a chunk, and of all that stands ahead of fmt.
use Rattle.std.specs.Prelude.{ℕ, ◌+◌, ◌%◌, List, [], ◌++◌, length, replicate, eqb}
use Rattle.le.specs.Number.{bytes}
use Rattle.le.specs.Choice.{pick}
use Rattle.chunk.specs.Names.{WAVE, DS64, JUNK}
use Rattle.chunk.specs.Fields.{ONES}
use Rattle.form.specs.declared.Form.{Form}
use Rattle.form.specs.declared.Form.TheVariants.{Riff, Rf64, Bw64}
use Rattle.form.specs.Forms.{name_of, LEAST}

-- ---- chunks

-- "one pad byte if the payload is odd. The pad .. is written as zero"
unfoldable pub pad_of : ℕ → List ℕ
pad_of n = replicate (n % 2) 0

-- "A chunk is a 4-byte name, a 32-bit size field, its payload, and one pad byte if the payload is odd."
unfoldable pub chunk_with : ℕ → ℕ → List ℕ → List ℕ
chunk_with name own p = bytes 4 name ++ (bytes 4 own ++ (p ++ pad_of (length p)))

-- whose size field is its true size
unfoldable pub chunk_bytes : ℕ → List ℕ → List ℕ
chunk_bytes name p = chunk_with name (length p) p

-- "empty means absent"
unfoldable pub optional : ℕ → List ℕ → List ℕ
unfolding pick
optional name p = pick (eqb (length p) 0) [] (chunk_bytes name p)

-- the bytes of a chunk: header, payload and pad
unfoldable pub chunk_size : ℕ → ℕ
chunk_size n = 8 + n + n % 2

-- none for an empty payload
unfoldable pub optional_size : ℕ → ℕ
unfolding pick
optional_size n = pick (eqb n 0) 0 (chunk_size n)

-- ---- the opening

-- "JUNK of 28 zero bytes (RIFF) or ds64 of 28 (others)": of the form size, the data size and the frames, and an entry count
-- of 0; "RF64's third number is the frame count", BW64's is "zero when written"
unfoldable pub first_chunk : Form → ℕ → ℕ → ℕ → List ℕ
first_chunk Riff size audio frames = chunk_bytes JUNK (replicate LEAST 0)
first_chunk Rf64 size audio frames = chunk_bytes DS64 (bytes 8 size ++ (bytes 8 audio ++ (bytes 8 frames ++ bytes 4 0)))
first_chunk Bw64 size audio frames = chunk_bytes DS64 (bytes 8 size ++ (bytes 8 audio ++ (bytes 8 0 ++ bytes 4 0)))

-- "In 64-bit forms the form and data fields are all ones"
unfoldable pub own_field : Form → ℕ → ℕ
own_field Riff size = size
own_field Rf64 size = ONES
own_field Bw64 size = ONES

-- the form's name, its field, WAVE, and the first chunk
unfoldable pub opening_bytes : Form → ℕ → ℕ → ℕ → List ℕ
opening_bytes form size audio frames =
    bytes 4 (name_of form)
    ++ (bytes 4 (own_field form size) ++ (bytes 4 WAVE ++ first_chunk form size audio frames))
