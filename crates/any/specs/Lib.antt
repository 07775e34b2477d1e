pub mod Anys
