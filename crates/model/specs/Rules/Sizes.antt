-- The disk's layout, named once. Document 01, "The medium and its stores": "A medium is 386 words of 32 bits. Word 0 is
-- m; word 1 the pending count p; words 2 to 129 SAM; words 130 + 2i and 131 + 2i are log entry i."
use Rattle.std.specs.Prelude.{ℕ}

abbrev pub disk_words : ℕ
disk_words = 386

-- word 0, the block count
abbrev pub blocks_at : ℕ
blocks_at = 0

-- word 1, the log length (document 01: the pending count)
abbrev pub length_at : ℕ
length_at = 1

-- where SAM starts
abbrev pub bitmap_at : ℕ
bitmap_at = 2

-- where the log starts
abbrev pub log_at : ℕ
log_at = 130

-- the log's words: an entry of two for each bitmap word
abbrev pub log_words : ℕ
log_words = 256

-- all words from the log's start on
abbrev pub tail_words : ℕ
tail_words = 256

-- where the log ends
abbrev pub log_end : ℕ
log_end = 386
