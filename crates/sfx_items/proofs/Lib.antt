pub mod ItemListLemmas
